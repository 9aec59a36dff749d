-- The writer's steps: what each one asks, writes, fills and leaves. One table, `plan`, says it; `step` carries a plan out.
-- What is written is said by the formats of the messages, so that nothing about the wire is said here.
use Rattle.std.specs.Prelude.{ℕ, ◌+◌, ◌-◌, Bool, true, ◌&&◌, List, [], ◌∷◌, ◌++◌, length, get_or, leb, ltb, eqb}
use Rattle.std.proofs.Math.Option.{some}
use Rattle.format.specs.declared.Fault.TheVariants.{Limit, Version, WireType}
use Rattle.format.specs.Result.{Res, ok}
use Rattle.format.specs.Number.{num_bytes}
use Rattle.format.specs.Format.{Verdict, fine}
use Rattle.format.specs.Text.{utf8}
use Rattle.format.specs.Value.{Value, value, anything, t_null, t_tinyint, t_array}
use Rattle.format.specs.Message.{Message, Content, an_invocation, a_response, Param, null, one, array, bytes, values, param, metadata, message, most_items, most_columns, most_message, most_row, unlimited}
use Rattle.steps.specs.declared.Stage.{Stage}
use Rattle.steps.specs.declared.Stage.TheVariants.{Call, Array, Reply, Table, Row}
use Rattle.steps.specs.State.{State, no_inner, closed, all_columns, is_element, at_stage}
use Rattle.steps.specs.Next.{begun_at, between_at, array_at, table_at}
use Rattle.steps.specs.Plans.{Plan, Out, answer_within, carry, after, also, test}
use Rattle.steps.specs.Arguments.{Column, Opening, text_fault, value_fault, name_faults, opening_fault, types_of, metadata_of, opened}

-- the steps, with their arguments
pub data Step : Type 0 where
  begin_call : ℕ → List ℕ → List ℕ → Step  -- version, procedure, client data
  null_param : Step
  one_param : ℕ → Value → Step  -- type, value
  bytes_param : List ℕ → Step  -- a byte array
  open_array : ℕ → Step  -- element type
  element : ℕ → Value → Step  -- type, value
  close_array : Step
  finish_call : Step
  begin_reply : ℕ → Opening → Step  -- version, fields before the table count
  open_table : ℕ → List Column → Step  -- status, columns
  open_row : Step
  cell : ℕ → Value → Step  -- type, value
  close_row : Step
  close_table : Step
  finish_reply : Step

-- where a message of the most bytes ends: its length counts what follows it
abbrev pub message_end : ℕ
message_end = 4 + most_message

-- what a step of a message answers
abbrev pub answer_at : Bool → Verdict → Bool → ℕ → ℕ → ℕ → Res ℕ
answer_at = answer_within message_end

abbrev pub says : ℕ → Content → Message
says version content = record { version = version; content = content }

-- a message is begun: its length and its count, which is its last field, hold zeros
abbrev pub begin_plan : Stage → Verdict → List ℕ → Plan State
begin_plan stage faults bs = record {
  permitted = true;
  faults = faults;
  limits = true;
  most = message_end;
  at = 0;
  bytes = num_bytes 4 0 ++ bs;
  fills = [];
  next = λ n. begun_at stage n;
}

-- a parameter in one step
abbrev pub param_plan : Verdict → Param → State → ℕ → Plan State
param_plan faults p st size = record {
  permitted = at_stage Call st size;
  faults = faults;
  limits = leb (st.count + 1) most_items;
  most = message_end;
  at = st.position;
  bytes = param.bytes p;
  fills = [];
  next = λ n. between_at Call n st.count_at (st.count + 1);
}

-- the message's length and its count are filled
abbrev pub finish_plan : Stage → State → ℕ → Plan State
finish_plan stage st size = record {
  permitted = at_stage stage st size;
  faults = fine;
  limits = true;
  most = message_end;
  at = st.position;
  bytes = [];
  fills = record { at = 0; width = 4; number = st.position - 4 } ∷ record { at = st.count_at; width = 2; number = st.count } ∷ [];
  next = λ n. closed n;
}

abbrev pub plan : Step → State → ℕ → Plan State
plan (begin_call version procedure client) st size =
    begin_plan Call (also (test (leb version 1) Version 0) (text_fault utf8 0 procedure))
    ((message 3).bytes (says version (an_invocation (record { procedure = some procedure; client = client; params = [] }))))
plan null_param st size = param_plan fine (record { type = t_null; argument = null }) st size
plan (one_param t v) st size = param_plan (value_fault st.position t v) (record { type = t; argument = one v }) st size
plan (bytes_param bs) st size = param_plan (text_fault anything st.position bs) (record { type = t_array; argument = array t_tinyint (bytes (some bs)) }) st size
plan (open_array t) st size = record {
  permitted = at_stage Call st size;
  faults = test (is_element t) WireType st.position;
  limits = leb (st.count + 1) most_items;
  most = message_end;
  at = st.position;
  bytes = param.bytes (record { type = t_array; argument = array t (values []) });
  fills = [];
  next = λ n. array_at Array n st.count_at (st.count + 1) (n - 2) t 0;
}
plan (element t v) st size =
    let i = st.inner in record {
      permitted = at_stage Array st size;
      faults = also (test (eqb t i.type) WireType st.position) (value_fault st.position t v);
      limits = leb (i.count + 1) most_items;
      most = message_end;
      at = st.position;
      bytes = (value 27 28 t).bytes v;
      fills = [];
      next = λ n. array_at Array n st.count_at st.count i.at i.type (i.count + 1);
    }
plan close_array st size = record {
  permitted = at_stage Array st size;
  faults = fine;
  limits = true;
  most = message_end;
  at = st.position;
  bytes = [];
  fills = record { at = st.inner.at; width = 2; number = st.inner.count } ∷ [];
  next = λ n. between_at Call n st.count_at st.count;
}
plan finish_call st size = finish_plan Call st size
plan (begin_reply version o) st size = begin_plan Reply (also (test (leb version 1) Version 0) (opening_fault o)) ((message 4).bytes (says version (a_response (opened o))))
plan (open_table status cs) st size = record {
  permitted = at_stage Reply st size;
  faults = also (test (leb (length cs) most_columns) Limit st.position) (also (test (all_columns (types_of cs)) WireType st.position) (name_faults st.position cs));
  limits = leb (st.count + 1) most_items;
  most = message_end;
  at = st.position;
  bytes = num_bytes 4 0 ++ (metadata.bytes (metadata_of status cs) ++ num_bytes 4 0);
  fills = [];
  next = λ n. record {
    stage = Table;
    position = n;
    count_at = st.count_at;
    count = st.count + 1;
    inner = no_inner;
    outer = record { at = st.position; rows_at = n - 4; rows = 0; types = types_of cs };
  };
}
plan open_row st size =
    let o = st.outer in record {
      permitted = at_stage Table st size;
      faults = fine;
      limits = leb (o.rows + 1) unlimited;
      most = message_end;
      at = st.position;
      bytes = num_bytes 4 0;
      fills = [];
      next = λ n. table_at Row n st st.position 0 (o.rows + 1);
    }
plan (cell t v) st size =
    let i = st.inner in record {
      permitted = at_stage Row st size && ltb i.count (length st.outer.types);
      faults = also (test (eqb t (get_or st.outer.types i.count 0)) WireType st.position) (value_fault st.position t v);
      limits = leb (st.position + length ((value 50 51 t).bytes v)) (i.at + 4 + most_row);
      most = message_end;
      at = st.position;
      bytes = (value 50 51 t).bytes v;
      fills = [];
      next = λ n. table_at Row n st i.at (i.count + 1) st.outer.rows;
    }
plan close_row st size =
    let i = st.inner in record {
      permitted = at_stage Row st size && eqb i.count (length st.outer.types);
      faults = fine;
      limits = leb st.position (i.at + 4 + most_row);
      most = message_end;
      at = st.position;
      bytes = [];
      fills = record { at = i.at; width = 4; number = st.position - (i.at + 4) } ∷ [];
      next = λ n. table_at Table n st 0 0 st.outer.rows;
    }
plan close_table st size =
    let o = st.outer in record {
      permitted = at_stage Table st size;
      faults = fine;
      limits = true;
      most = message_end;
      at = st.position;
      bytes = [];
      fills = record { at = o.at; width = 4; number = st.position - (o.at + 4) } ∷ record { at = o.rows_at; width = 4; number = o.rows } ∷ [];
      next = λ n. between_at Reply n st.count_at st.count;
    }
plan finish_reply st size = finish_plan Reply st size

unfoldable pub step : Step → State → List ℕ → Out State
step s st b = carry (plan s st (length b)) st b

-- steps one after the other, each on what the last one left; the first refusal ends them
unfoldable pub run : List Step → State → List ℕ → Out State
run [] st b = record { answer = ok st.position; state = st; buffer = b }
run (s ∷ ss) st b = after (step s st b) (run ss)
