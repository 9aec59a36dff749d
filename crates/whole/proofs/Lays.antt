-- What the cells of a row write, in turn; and the steps of a row that is taken: they write its cells one behind the other, and then its length.
use Prim.Native.Nat.{ℕ, zero, suc, ◌+◌, ◌-◌, ◌*◌, ◌/◌, ◌^◌, ◌<◌, ◌≤◌}
use native.Mathlib.Omega.{arith}
use native.Mathlib.Nat.{add-zero}
use mathlib.Core.Path.{◌≡◌, refl, sym, ap, ◌∙◌, subst}
use mathlib.Core.List.{List, [], ◌∷◌, ◌++◌}
use mathlib.Core.Option.{Option, some, none}
use lib.ListN.{length, get_or, length-take}
use lib.Seq.{get_or-take}
use lib.Dec.{eqb, lit≤}
use borrow.Author.Tests.{ltb-true, eqb-true}
use Rattle.std.specs.Prelude.{Result, Ok, Err}
use Rattle.format.specs.declared.Fault.{Fault}
use Rattle.format.specs.declared.Refusal.{Refusal}
use Rattle.format.specs.Result.{Res, ok, no, pick}
use Rattle.format.specs.Number.{num_bytes}
use Rattle.format.specs.Value.{Value, value, is_counted, width_of}
use Rattle.format.specs.Message.{most_columns, unlimited}
use Rattle.format.proofs.Numbers.{length-num_bytes}
use Rattle.format.proofs.Results.{and_true_both, no_ok, ok_same, bound}
use Rattle.put.specs.Put.{put}
use Rattle.put.proofs.Laws.{put_length, put_nothing, lower_half, halves, widths, puts_number, puts_both}
use Rattle.steps.specs.declared.Stage.TheVariants.{Table, Row}
use Rattle.steps.specs.State.{State, at_stage}
use Rattle.steps.specs.Next.{table_at}
use Rattle.steps.specs.Plans.{Out, answer_of, out_of, carry}
use Rattle.steps.specs.Steps.{Step, open_row, cell, close_row, plan, step}
use Rattle.steps.proofs.Plans.{answer_ok}
use Rattle.steps.proofs.Frame.{step_keeps}
use Rattle.write.specs.declared.State.{State as Code}
use Rattle.write.specs.declared.Outcome.{Outcome}
use Rattle.write.specs.Shown.{seen, shown_answer, came}
use Rattle.write.specs.Shared.{tabled}
use Rattle.scan.proofs.Answers.{shown_go, shown_stop}
use Rattle.write.proofs.Seen.{tabled_shown}
use Rattle.rows.proofs.Cells.{cell_fine}
use Rattle.whole.specs.Rows.{value_in, cell_step, steps_from, cell_steps, run_each, whole_row, WroteRow}
use Rattle.whole.specs.Asked.{answers, in_row, row_answer, Opened}
use Rattle.whole.specs.Laid.{upper_of, lower_of, Fits, cell_bytes, cell_at, laid, FitAll}
use Rattle.whole.proofs.Values.{cell_stands, cell_bytes_lem}
use Rattle.whole.proofs.Answers.{ground, columns_few, types_are}

-- a value of a fixed size is its upper half, if it has one, and its lower one
halves_width : (t : ℕ) → upper_of t + lower_of t ≡ width_of t
halves_width = widths (λ w. pick (eqb w 16) 8 0 + pick (eqb w 16) 8 w ≡ w) refl refl refl refl refl refl

halves_bytes : (t upper lower : ℕ) → lower < 2 ^ 64 → num_bytes (upper_of t) upper ++ num_bytes (lower_of t) lower ≡ num_bytes (width_of t) (upper * 2 ^ 64 + lower)
unfolding num_bytes
halves_bytes t upper lower h =
    widths (λ w. num_bytes (pick (eqb w 16) 8 0) upper ++ num_bytes (pick (eqb w 16) 8 w) lower ≡ num_bytes w (upper * 2 ^ 64 + lower))
    refl (sym (lower_half 1 upper lower (lit≤ tt))) (sym (lower_half 2 upper lower (lit≤ tt))) (sym (lower_half 4 upper lower (lit≤ tt))) (sym (lower_half 8 upper lower (lit≤ tt))) (sym (halves upper lower h)) t

pub halves_put : (b : List ℕ) (at t upper lower : ℕ) {m r : ℕ} {c d : List ℕ} → lower < 2 ^ 64 → at + width_of t ≤ length b → (m ≡ at + upper_of t) × (c ≡ put b at (num_bytes (upper_of t) upper))
    → (r ≡ m + lower_of t) × (d ≡ put c m (num_bytes (lower_of t) lower)) → (r ≡ at + width_of t) × (d ≡ put b at (num_bytes (width_of t) (upper * 2 ^ 64 + lower)))
halves_put b at t upper lower {m} {r} {c} {d} low h p q =
    let sum = halves_width t in
    let one = puts_number b at (upper_of t) upper (omega arith) p in
    let two = puts_both one (puts_number c m (lower_of t) lower (omega (arith, one.kept, one.ends)) q) in
    (two.ends ∙ ap (λ (k : ℕ). at + k) sum, two.is ∙ ap (λ (l : List ℕ). put b at l) (halves_bytes t upper lower low))

-- what an arm of a match on the type does that writes nothing
pub none_put : (b : List ℕ) (at n v : ℕ) → v ≡ 0 → (at ≡ at + v) × (b ≡ put b at (num_bytes v n))
unfolding num_bytes
none_put b at n v e = (sym (ap (λ (k : ℕ). at + k) e ∙ add-zero at), sym (ap (λ (k : ℕ). put b at (num_bytes k n)) e ∙ put_nothing b at))

-- the next cell, of those that are left, and no cell left
module _ (bytes types ns : List ℕ) (pairs : ℕ) where
  pub fit_next : (k at size : ℕ) → k < pairs → FitAll bytes types ns k (pairs - k) at size
      → Fits bytes (get_or types k 0) (get_or ns (2 * k) 0) (get_or ns (2 * k + 1) 0) at size × FitAll bytes types ns (k + 1) (pairs - (k + 1)) (at + length (cell_at bytes types ns k)) size
  unfolding FitAll
  fit_next k at size h f =
      let left : pairs - k ≡ suc (pairs - (k + 1)) = omega arith in
      subst (λ (m : ℕ). FitAll bytes types ns k m at size) left f

  pub lay_next : (k at : ℕ) (b : List ℕ) → k < pairs
      → laid bytes types ns (k + 1) (pairs - (k + 1)) (at + length (cell_at bytes types ns k)) (put b at (cell_at bytes types ns k)) ≡ laid bytes types ns k (pairs - k) at b
  unfolding laid
  lay_next k at b h =
      let left : pairs - k ≡ suc (pairs - (k + 1)) = omega arith in
      sym (ap (λ (m : ℕ). laid bytes types ns k m at b) left)

  -- a cell that was written
  pub lay_turn : (k at : ℕ) (b : List ℕ) {r : ℕ} {c whole : List ℕ} → k < pairs → FitAll bytes types ns k (pairs - k) at (length b) → laid bytes types ns k (pairs - k) at b ≡ whole
      → (r ≡ at + length (cell_at bytes types ns k)) × (c ≡ put b at (cell_at bytes types ns k)) → length c ≡ length b
      → FitAll bytes types ns (k + 1) (pairs - (k + 1)) r (length c) × (laid bytes types ns (k + 1) (pairs - (k + 1)) r c ≡ whole)
  lay_turn k at b h f e w l = rw (l, w.0, w.1) ((fit_next k at (length b) h f).1, lay_next k at b h ∙ e)

  pub lay_end : (k at : ℕ) (b : List ℕ) → pairs ≤ k → b ≡ laid bytes types ns k (pairs - k) at b
  unfolding laid
  lay_end k at b h =
      let left : pairs - k ≡ 0 = omega arith in
      sym (ap (λ (m : ℕ). laid bytes types ns k m at b) left)

-- a step, by its answer
step_ok : (s : Step) (st : State) (b : List ℕ) (n : ℕ) (c : List ℕ) → answer_of (plan s st (length b)) (length b) ≡ ok n → (out_of (ok n) (plan s st (length b)) st b).buffer ≡ c
    → step s st b ≡ record { answer = ok n; state = (plan s st (length b)).next n; buffer = c }
unfolding step carry
step_ok s st b n c e w = ap (λ (r : Res ℕ). out_of r (plan s st (length b)) st b) e ∙ ap {B = Out State} (λ (x : List ℕ). record { answer = ok n; state = (plan s st (length b)).next n; buffer = x }) w

-- steps are answered as they are asked, whatever stands in the buffer
pub run_answer : (ss : List (Option Step)) (st : State) (b : List ℕ) → (run_each ss st b).answer ≡ answers ss st (length b)
unfolding run_each answers step carry
run_answer [] st b = refl
run_answer (none ∷ ss) st b = refl
run_answer (some s ∷ ss) st b = go (λ st c. run_answer ss st c) (answer_of (plan s st (length b)) (length b)) refl
  where
    go : ((st : State) (c : List ℕ) → (run_each ss st c).answer ≡ answers ss st (length c)) → (r : Res ℕ) → answer_of (plan s st (length b)) (length b) ≡ r → (run_each (some s ∷ ss) st b).answer ≡ answers (some s ∷ ss) st (length b)
    go more (ok n) e =
        let c = (out_of (ok n) (plan s st (length b)) st b).buffer in
        let took = step_ok s st b n c e refl in
        let long = (step_keeps s st b n (ap (λ (o : Out State). o.answer) took)).size in
        let same : length c ≡ length b = sym (ap (λ (o : Out State). length o.buffer) took) ∙ long in
        rw e (more ((plan s st (length b)).next n) c ∙ ap (answers ss ((plan s st (length b)).next n)) same)
    go more (no f p) e = rw e

module _ (bytes ns raw : List ℕ) (st : State) (agree : (k : ℕ) → k < length st.outer.types → get_or raw k 0 ≡ get_or st.outer.types k 0) where
  -- cells that are taken, and the closing behind them
  pub record Gone (k left at : ℕ) (b : List ℕ) (n : ℕ) : Type 0 where
    pub fits : FitAll bytes raw ns k left at (length b)
    pub low : at ≤ n
    pub all : k + left ≡ length st.outer.types
    pub ran : run_each (steps_from bytes st.outer.types ns k left) (in_row st at k) b ≡ record {
      answer = ok n;
      state = table_at Table n st 0 0 (st.outer.rows + 1);
      buffer = put (laid bytes raw ns k left at b) st.position (num_bytes 4 (n - (st.position + 4)));
    }

  closes : (k at : ℕ) (b : List ℕ) (n : ℕ) → answers (steps_from bytes st.outer.types ns k 0) (in_row st at k) (length b) ≡ ok n → Gone k 0 at b n
  unfolding answers steps_from run_each laid FitAll
  closes k at b n e =
      let s = in_row st at k in
      let size = length b in
      let x = bound (answer_of (plan close_row s size) size) e in
      let is : x.0 ≡ n = ok_same x.2 in
      let a = answer_ok (plan close_row s size) size x.0 x.1 in
      let count = eqb-true k (length st.outer.types) (and_true_both (at_stage Row s size) _ a.fine.permitted).1 in
      let here : n ≡ at = sym is ∙ (a.reached ∙ add-zero at) in
      let w : put (put b at []) st.position (num_bytes 4 (at - (st.position + 4))) ≡ put b st.position (num_bytes 4 (n - (st.position + 4)))
      = ap (λ (y : List ℕ). put y st.position (num_bytes 4 (at - (st.position + 4)))) (put_nothing b at) ∙ ap (λ (m : ℕ). put b st.position (num_bytes 4 (m - (st.position + 4)))) (sym here) in
      let took = step_ok close_row s b n _ (x.1 ∙ ap ok is) w in
      record { fits = tt; low = omega arith; all = add-zero k ∙ count; ran = rw took refl }

  cell_first : (left k at : ℕ) (b : List ℕ) (n : ℕ)
      → ((n' : ℕ) (c : List ℕ) → answers (steps_from bytes st.outer.types ns (k + 1) left) (in_row st n' (k + 1)) (length c) ≡ ok n → Gone (k + 1) left n' c n)
      → let t = get_or st.outer.types k 0 in (v : Option Value) → value_in bytes t (get_or ns (2 * k) 0) (get_or ns (2 * k + 1) 0) ≡ v
      → answers (cell_step t v ∷ steps_from bytes st.outer.types ns (k + 1) left) (in_row st at k) (length b) ≡ ok n → Gone k (suc left) at b n
  unfolding answers steps_from run_each laid FitAll
  cell_first left k at b n more none q e = absurd (no_ok e)
  cell_first left k at b n more (some v) q e =
      let t = get_or st.outer.types k 0 in
      let s = in_row st at k in
      let size = length b in
      let p = plan (cell t v) s size in
      let x = bound (answer_of p size) e in
      let n' = x.0 in
      let a = answer_ok p size n' x.1 in
      let less = ltb-true k (length st.outer.types) (and_true_both (at_stage Row s size) _ a.fine.permitted).1 in
      let bs = cell_at bytes raw ns k in
      let known : (value 50 51 t).bytes v ≡ bs = cell_bytes_lem bytes at t (get_or ns (2 * k) 0) (get_or ns (2 * k + 1) 0) v q (cell_fine s size t v a)
      ∙ ap (λ (u : ℕ). cell_bytes bytes u (get_or ns (2 * k) 0) (get_or ns (2 * k + 1) 0)) (sym (agree k less)) in
      let reached : n' ≡ at + length bs = a.reached ∙ ap (λ (l : List ℕ). at + length l) known in
      let fits : n' ≤ size = a.fits in
      let c = put b at bs in
      let long : length c ≡ size = put_length b at bs (omega arith) in
      let rest = more n' c (subst (λ (m : ℕ). answers (steps_from bytes st.outer.types ns (k + 1) left) (in_row st n' (k + 1)) m ≡ ok n) (sym long) x.2) in
      let low : n' ≤ n = rest.low in
      let all : k + 1 + left ≡ length st.outer.types = rest.all in
      let took : step (cell t v) s b ≡ record { answer = ok n'; state = in_row st n' (k + 1); buffer = c } = step_ok (cell t v) s b n' c x.1 (ap (λ (l : List ℕ). put b at l) known) in
      let placed = ap (λ (m : ℕ). put (laid bytes raw ns (k + 1) left m c) st.position (num_bytes 4 (n - (st.position + 4)))) reached in
      record {
        fits = (
          record { stands = λ counted. cell_stands bytes t _ _ v q (ap is_counted (sym (agree k less)) ∙ counted); room = omega arith },
          subst (λ (m : ℕ). FitAll bytes raw ns (k + 1) left m size) reached (subst (λ (m : ℕ). FitAll bytes raw ns (k + 1) left n' m) long rest.fits),
        );
        low = omega arith;
        all = omega arith;
        ran = rw (q, took) (rest.ran ∙ ap {B = Out State} (λ (y : List ℕ). record { answer = ok n; state = table_at Table n st 0 0 (st.outer.rows + 1); buffer = y }) placed);
      }

  pub goes : (left k at : ℕ) (b : List ℕ) (n : ℕ) → answers (steps_from bytes st.outer.types ns k left) (in_row st at k) (length b) ≡ ok n → Gone k left at b n
  unfolding steps_from
  goes zero k at b n e = closes k at b n e
  goes (suc left) k at b n e = cell_first left k at b n (λ n' c f. goes left (k + 1) n' c n f) (value_in bytes (get_or st.outer.types k 0) (get_or ns (2 * k) 0) (get_or ns (2 * k + 1) 0)) refl e

-- a whole row that is taken: what it has to have room for, and what comes of it
pub record Taken (bytes ns raw : List ℕ) (st : State) (b : List ℕ) (n : ℕ) : Type 0 where
  pub opened : Opened st (length b) (st.position + 4)
  pub few : st.position + 4 ≤ length b
  pub pairs : length ns / 2 ≡ length st.outer.types
  pub low : st.position + 4 ≤ n
  pub fits : FitAll bytes raw ns 0 (length ns / 2) (st.position + 4) (length b)
  pub whole : whole_row bytes ns st b ≡ record {
    answer = ok n;
    state = table_at Table n st 0 0 (st.outer.rows + 1);
    buffer = put (laid bytes raw ns 0 (length ns / 2) (st.position + 4) (put b st.position (num_bytes 4 0))) st.position (num_bytes 4 (n - (st.position + 4)));
  }

pub row_taken : (bytes ns raw : List ℕ) (st : State) (b : List ℕ) (n : ℕ) → ((k : ℕ) → k < length st.outer.types → get_or raw k 0 ≡ get_or st.outer.types k 0)
    → row_answer bytes ns st (length b) ≡ ok n → Taken bytes ns raw st b n
unfolding answers run_each whole_row
row_taken bytes ns raw st b n agree e =
    let size = length b in
    let x = bound (answer_of (plan open_row st size) size) e in
    let first = x.0 in
    let a = answer_ok (plan open_row st size) size first x.1 in
    let is : first ≡ st.position + 4 = a.reached ∙ ap (λ (m : ℕ). st.position + m) (length-num_bytes 4 0) in
    let fits : first ≤ size = a.fits in
    let c = put b st.position (num_bytes 4 0) in
    let long : length c ≡ size = put_length b st.position (num_bytes 4 0) (omega (arith, length-num_bytes 4 0)) in
    let g = goes bytes ns raw st agree (length ns / 2) 0 first c n (subst (λ (m : ℕ). answers (cell_steps bytes st.outer.types ns) (in_row st first 0) m ≡ ok n) (sym long) x.2) in
    let took : step open_row st b ≡ record { answer = ok first; state = in_row st first 0; buffer = c } = step_ok open_row st b first c x.1 refl in
    let low : first ≤ n = g.low in
    let all : 0 + length ns / 2 ≡ length st.outer.types = g.all in
    record {
      opened = x.1 ∙ ap ok is;
      few = omega arith;
      pairs = omega arith;
      low = omega arith;
      fits = subst (λ (m : ℕ). FitAll bytes raw ns 0 (length ns / 2) m size) is (subst (λ (m : ℕ). FitAll bytes raw ns 0 (length ns / 2) first m) long g.fits);
      whole = rw (took, g.ran)
          (ap {B = Out State} (λ (m : ℕ). record {
            answer = ok n;
            state = table_at Table n st 0 0 (st.outer.rows + 1);
            buffer = put (laid bytes raw ns 0 (length ns / 2) m c) st.position (num_bytes 4 (n - (st.position + 4)));
          }) is);
    }

-- a whole row that is refused changes nothing
pub row_no : (bytes ns : List ℕ) (st : State) (b : List ℕ) (f : Fault) (p : ℕ) → row_answer bytes ns st (length b) ≡ no f p → whole_row bytes ns st b ≡ record { answer = no f p; state = st; buffer = b }
unfolding whole_row
row_no bytes ns st b f p e = rw (run_answer (some open_row ∷ cell_steps bytes st.outer.types ns) st b ∙ e)

-- the same in the code's terms
module _ (bytes ns : List ℕ) (st : Code) (types b : List ℕ) where
  pub refused : {a : Result ℕ Refusal} {x : Refusal} → a ≡ shown_answer (row_answer bytes ns (seen st types) (length b)) → a ≡ Err x → WroteRow bytes ns st types b (record { answer = a; state = st }) b
  refused {a} {x} e f =
      let w = row_no bytes ns (seen st types) b x.fault x.place (shown_stop _ e f) in
      (ap {B = Outcome} (λ (y : Result ℕ Refusal). record { answer = y; state = st }) f ∙ sym (ap (came st) w), sym (ap (λ (o : Out State). o.buffer) w))

  pub record Accepts (n : ℕ) : Type 0 where
    pub taken : Taken bytes ns types (seen st types) b n
    pub wide : length ns / 2 ≤ most_columns
    pub more : st.rows + 1 ≤ unlimited

  pub accepts : {a : Result ℕ Refusal} {n : ℕ} → a ≡ shown_answer (row_answer bytes ns (seen st types) (length b)) → a ≡ Ok n → Accepts n
  unfolding answers
  accepts {a} {n} e f =
      let s = seen st types in
      let r = shown_go _ e f in
      let x = bound (answer_of (plan open_row s (length b)) (length b)) r in
      let few = columns_few st types (length b) x.0 x.1 in
      let are = types_are st types few in
      let long : length s.outer.types ≤ st.columns = omega (arith, ap length are, length-take st.columns types) in
      let t = row_taken bytes ns types s b n
      (λ k h. sym (ap (λ (l : List ℕ). get_or l k 0) are ∙ get_or-take st.columns types k 0 (omega arith))) r in
      record { taken = t; wide = omega (arith, t.pairs); more = (ground s (length b) x.0 x.1).more }

  pub wrote : {n first : ℕ} {next : Code} {c₁ c₂ c₃ : List ℕ} → Accepts n → length types ≡ most_columns → next ≡ tabled st Table n 0 0 (st.rows + 1)
      → (first ≡ st.position + 4) × (c₁ ≡ put b st.position (num_bytes 4 0)) → c₂ ≡ laid bytes types ns 0 (length ns / 2) first c₁ → c₃ ≡ put c₂ st.position (num_bytes 4 (n - first))
      → WroteRow bytes ns st types b (record { answer = Ok n; state = next }) c₃
  wrote {n} a long e w₁ w₂ w₃ =
      let o = a.taken.whole in (
        ap {B = Outcome} (λ (y : Code). record { answer = Ok n; state = y }) (e ∙ tabled_shown st types Table n 0 0 (st.rows + 1) long) ∙ sym (ap (came st) o),
        rw (w₃, w₂, w₁.0, w₁.1) (sym (ap (λ (y : Out State). y.buffer) o)),
      )
