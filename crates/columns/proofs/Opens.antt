-- The step that opens a table, by its two walks: what is found of the columns is what the plan asks, and what is written is the plan's.
use Prim.Native.Nat.{ℕ, ◌+◌, ◌-◌, ◌≤◌}
use native.Mathlib.Nat.{zero-add}
use native.Mathlib.Omega.{arith}
use mathlib.Core.Path.{◌≡◌, refl, sym, ap, ap₂, ◌∙◌, subst}
use mathlib.Core.Bool.{Bool, true, false}
use mathlib.Core.List.{List, [], ◌++◌, flat_map, append_assoc}
use lib.ListN.{length, length-append, length-map}
use lib.Seq.{sets}
use lib.Dec.{leb}
use borrow.Author.Tests.{leb-true}
use Rattle.format.specs.declared.Fault.{Fault}
use Rattle.format.specs.declared.Fault.TheVariants.{Limit, WireType}
use Rattle.format.specs.Result.{Res, ok, no}
use Rattle.format.specs.Number.{num_bytes}
use Rattle.format.specs.Format.{Verdict, fine, bad}
use Rattle.format.specs.Message.{most_columns}
use Rattle.format.proofs.Numbers.{length-num_bytes}
use Rattle.put.specs.Put.{put}
use Rattle.put.proofs.Laws.{put_length, twice}
use Rattle.write.specs.declared.State.{State as Code}
use Rattle.write.specs.declared.Outcome.{Outcome}
use Rattle.steps.specs.State.{State, all_columns}
use Rattle.steps.specs.Plans.{Plan, Out, answer_within, answer_of, out_of, carry, also, test}
use Rattle.steps.specs.Arguments.{name_faults, types_of}
use Rattle.steps.specs.Steps.{Step, step, plan, open_table}
use Rattle.write.specs.Shown.{seen, shown, shown_answer, types_after, Opened}
use Rattle.steps.proofs.Plans.{Accepted, answer_ok}
use Rattle.steps.proofs.Accepted.{step_ok}
use Rattle.steps.proofs.Back.{also_fine, test_fine}
use Rattle.write.proofs.Taken.{step_refused, step_taken}
use Rattle.columns.specs.declared.Column.{Column as Entry}
use Rattle.columns.specs.declared.survey.Survey.{Survey}
use Rattle.columns.specs.declared.Head.{Head}
use Rattle.columns.specs.Entries.{columns_of, types_in, type_bytes, name_bytes, names_size, columns_fault}
use Rattle.columns.specs.Walks.{none_at, add_all, head_answer, head_bytes, opened_at, head_of, head_out, Page, put_all, FitsAll}
use Rattle.columns.proofs.Metadata.{columns_length, types_same, types_size, Standing, all_standing, names_length, metadata_is, table_length}
use Rattle.columns.proofs.Apart.{apart}
use Rattle.columns.proofs.Surveys.{found, fault_same}
use Rattle.columns.proofs.Pages.{none_put, none_fit, all_fit, all_put}

-- what the tests give is what the plan asks; its length is asked only where nothing else refuses
answer_same : {S : Type 0} (p : Plan S) (size : ℕ) {v : Verdict} {n : ℕ} → v ≡ p.faults → (p.faults ≡ fine → n ≡ length p.bytes) → answer_within p.most p.permitted v p.limits p.at n size ≡ answer_of p size
answer_same p size {v} {n} e h = rw e (go p.permitted p.faults h)
  where
    go : (u : Bool) (w : Verdict) → (w ≡ fine → n ≡ length p.bytes) → answer_within p.most u w p.limits p.at n size ≡ answer_within p.most u w p.limits p.at (length p.bytes) size
    go true fine h = rw (h refl)
    go true (bad x q) h = refl
    go false w h = refl

step_answer : (s : Step) (st : State) (b : List ℕ) → (step s st b).answer ≡ answer_of (plan s st (length b)) (length b)
unfolding step carry
step_answer s st b = go (answer_of (plan s st (length b)) (length b)) (plan s st (length b))
  where
    go : (r : Res ℕ) (p : Plan State) → (out_of r p st b).answer ≡ r
    go (ok n) p = refl
    go (no f q) p = refl

-- columns that have no fault: all were counted, and their names stand
record Sure (names : List ℕ) (at : ℕ) (es : List Entry) (s : Survey) : Type 0 where
  few : length es ≤ most_columns
  n : s.n ≡ length es
  stand : Standing names es
  size : s.size ≡ length (flat_map (name_bytes names) es)

sure : (names : List ℕ) (at : ℕ) (es : List Entry) → columns_fault at (columns_of es names) ≡ fine → Sure names at es (add_all names (none_at at) es)
sure names at es f =
    let cs = columns_of es names in
    let a = also_fine (test (leb (length cs) most_columns) Limit at) (also (test (all_columns (types_of cs)) WireType at) (name_faults at cs)) f in
    let b = also_fine (test (all_columns (types_of cs)) WireType at) (name_faults at cs) a.1 in
    let m = leb-true (length cs) most_columns (test_fine (leb (length cs) most_columns) Limit at a.0) in
    let l = columns_length es names in
    let few : length es ≤ most_columns = omega (arith, m, l) in
    let x = found names (none_at at) es (omega arith) in
    let s = add_all names (none_at at) es in
    let stand = all_standing at names es b.1 in
    record {
      few = few;
      n = x.n ∙ zero-add (length es);
      stand = stand;
      size = x.size (x.fault ∙ b.1) ∙ zero-add (names_size es) ∙ sym (names_length names es stand);
    }

module _ (st : Code) (status : ℕ) (names : List ℕ) (es : List Entry) (b types : List ℕ) where
  abbrev survey : Survey
  survey = add_all names (none_at st.position) es

  abbrev opens_by : Step
  opens_by = open_table status (columns_of es names)

  abbrev asks : Plan State
  asks = plan opens_by (seen st []) (length b)

  abbrev page : Res ℕ → Page
  page a = record { out = head_out st status survey a b; types = types; walk = (head_of st survey a).walk }

  -- what is to be shown, by the answer
  abbrev Opens : Res ℕ → Type 0
  Opens a =
      let q = put_all names (page a) es in
      FitsAll names (length (head_out st status survey a b)) (head_of st survey a).walk es × Opened opens_by st types b (head_of st survey a).step q.types q.out

  same_answer : head_answer st survey (length b) ≡ answer_of asks (length b)
  same_answer =
      answer_same asks (length b) (fault_same names st.position es)
      (λ f. let s = sure names st.position es f in let l = table_length status es names in let n : survey.n ≡ length es = s.n in let z : survey.size ≡ length (flat_map (name_bytes names) es) = s.size in omega arith)

  refused_opens : (f : Fault) (p : ℕ) → answer_of asks (length b) ≡ no f p → Opens (no f p)
  refused_opens f p e =
      let left = none_put names (page (no f p)) es refl in
      let no_answer : (step opens_by (seen st []) b).answer ≡ no f p = step_answer opens_by (seen st []) b ∙ e in (
        none_fit names (length b) _ es refl,
        rw left (step_refused opens_by st b [] (ap shown_answer (sym e)) refl, rw no_answer refl),
      )

  taken_opens : (n : ℕ) → answer_of asks (length b) ≡ ok n → Opens (ok n)
  taken_opens n e =
      let x : Accepted asks (length b) n = answer_ok asks (length b) n e in
      let s = sure names st.position es x.fine.faultless in
      let few : length es ≤ most_columns = s.few in
      let count : survey.n ≡ length es = s.n in
      let size : survey.size ≡ length (flat_map (name_bytes names) es) = s.size in
      let at = st.position in
      let ts = flat_map type_bytes es in
      let ns = flat_map (name_bytes names) es in
      let zs = num_bytes 4 0 in
      let head = head_bytes status survey in
      let lt : length ts ≡ length es = types_size es in
      let lz : length zs ≡ 4 = length-num_bytes 4 0 in
      let lh : length head ≡ 11 = head_length survey in
      let whole = table_length status es names in
      let reached : n ≡ at + (15 + (length es + length ns)) = x.reached ∙ ap (λ (k : ℕ). at + k) whole in
      let fits : n ≤ length b = x.fits in
      let b₁ = put b at head in
      let l₁ : length b₁ ≡ length b = put_length b at head (omega arith) in
      let end = n - 4 in
      let b₂ = put b₁ end zs in
      let l₂ : length b₂ ≡ length b₁ = put_length b₁ end zs (omega arith) in
      let all = all_put names (page (ok n)) es count (omega arith) (omega arith) in
      let m = at + 11 in
      let place : at + 11 + survey.n ≡ m + length ts = omega arith in
      let lm = length-append ts ns in
      let mid : put (put b₂ m ts) (at + 11 + survey.n) ns ≡ put b₂ m (ts ++ ns) = ap (λ (k : ℕ). put (put b₂ m ts) k ns) place ∙ twice b₂ m ts ns (omega arith) in
      let swap : put b₂ m (ts ++ ns) ≡ put (put b₁ m (ts ++ ns)) end zs = apart b₁ m (ts ++ ns) end zs (omega arith) (omega arith) in
      let behind : end ≡ m + length (ts ++ ns) = omega arith in
      let close : put (put b₁ m (ts ++ ns)) end zs ≡ put b₁ m ((ts ++ ns) ++ zs) = ap (λ (k : ℕ). put (put b₁ m (ts ++ ns)) k zs) behind ∙ twice b₁ m (ts ++ ns) zs (omega arith) in
      let front : put b₁ m ((ts ++ ns) ++ zs) ≡ put b at (head ++ ((ts ++ ns) ++ zs)) = ap (λ (k : ℕ). put b₁ (at + k) ((ts ++ ns) ++ zs)) (sym lh) ∙ twice b at head ((ts ++ ns) ++ zs) (omega arith) in
      let meta = metadata_is status names es {n = survey.n} {size = 3 + (survey.n + survey.size)} count (ap₂ (λ (i j : ℕ). 3 + (i + j)) count size) in
      let bytes : head ++ ((ts ++ ns) ++ zs) ≡ asks.bytes = regroup (num_bytes 4 0) (num_bytes 4 (3 + (survey.n + survey.size))) (num_bytes 1 status) (num_bytes 2 survey.n) (ts ++ ns) zs ∙ ap (λ (y : List ℕ). num_bytes 4 0 ++ (y ++ zs)) meta in
      let out = all.0 ∙ mid ∙ swap ∙ close ∙ front ∙ ap (put b at) bytes in
      let columns : survey.n ≡ length (types_of (columns_of es names)) = count ∙ sym (ap length (types_same es names) ∙ length-map es _) in
      let next : opened_at st n survey.n ≡ shown (asks.next n) = ap (opened_at st n) columns in
      let after : step opens_by (seen st []) b ≡ _ = (step_ok opens_by (seen st []) b n (step_answer opens_by (seen st []) b ∙ e)).1 in
      let set : types_after (step opens_by (seen st []) b).answer (step opens_by (seen st []) b).state.outer.types types ≡ sets types 0 (types_in es)
      = ap (λ (o : Out State). types_after o.answer o.state.outer.types types) after ∙ ap (sets types 0) (types_same es names) in (
        all_fit names (length b₂) _ es count s.stand (omega arith) (omega arith) (omega arith),
        (step_taken opens_by st b [] (ap shown_answer (sym e)) refl next out, all.1 ∙ sym set),
      )
    where
      head_length : (s : Survey) → length (head_bytes status s) ≡ 11
      head_length s =
          let a = length-append (num_bytes 4 0) (num_bytes 4 (3 + (s.n + s.size)) ++ (num_bytes 1 status ++ num_bytes 2 s.n)) in
          let c = length-append (num_bytes 4 (3 + (s.n + s.size))) (num_bytes 1 status ++ num_bytes 2 s.n) in
          let d = length-append (num_bytes 1 status) (num_bytes 2 s.n) in
          omega (arith, length-num_bytes 4 0, length-num_bytes 4 (3 + (s.n + s.size)), length-num_bytes 1 status, length-num_bytes 2 s.n)

      regroup : (z₁ l u k m z₂ : List ℕ) → (z₁ ++ (l ++ (u ++ k))) ++ (m ++ z₂) ≡ z₁ ++ ((l ++ (u ++ (k ++ m))) ++ z₂)
      regroup z₁ l u k m z₂ = simp append_assoc

  pub opens : Opens (head_answer st survey (length b))
  opens = go (answer_of asks (length b)) refl
    where
      go : (r : Res ℕ) → answer_of asks (length b) ≡ r → Opens (head_answer st survey (length b))
      go (ok n) e = subst Opens (sym (same_answer ∙ e)) (taken_opens n e)
      go (no f p) e = subst Opens (sym (same_answer ∙ e)) (refused_opens f p e)

  -- as the code makes it: from no column on, by what is found, by what stands around the columns and by what they leave
  pub opens_made : {z s : Survey} {h : Head} {b₁ : List ℕ} → z ≡ none_at st.position → s ≡ add_all names z es
      → (h ≡ head_of st s (head_answer st s (length b))) × (b₁ ≡ head_out st status s (head_answer st s (length b)) b)
      → FitsAll names (length b₁) h.walk es × ((r : Outcome) (b' types' : List ℕ) → (let q = put_all names (record { out = b₁; types = types; walk = h.walk }) es in (r ≡ h.step) × (b' ≡ q.out) × (types' ≡ q.types)) → Opened opens_by st types b r types' b')
  opens_made {z} {s} {h} {b₁} e f g =
      let same : s ≡ survey = f ∙ ap (λ (x : Survey). add_all names x es) e in
      let head : h ≡ head_of st survey (head_answer st survey (length b)) = g.0 ∙ ap (λ (x : Survey). head_of st x (head_answer st x (length b))) same in
      let out : b₁ ≡ head_out st status survey (head_answer st survey (length b)) b = g.1 ∙ ap (λ (x : Survey). head_out st status x (head_answer st x (length b)) b) same in
      let fits : FitsAll names (length b₁) h.walk es = rw (head, out) opens.0 in (
        fits,
        (λ r b' types' k.
            let is : r ≡ (head_of st survey (head_answer st survey (length b))).step = k.0 ∙ ap (λ (x : Head). x.step) head in
            let same-page : record { out = b₁; types = types; walk = h.walk } ≡ page (head_answer st survey (length b)) = ap₂ {C = Page} (λ (x : Head) (y : List ℕ). record { out = y; types = types; walk = x.walk }) head out in
            let wrote : b' ≡ (put_all names (page (head_answer st survey (length b))) es).out = k.1 ∙ ap (λ (x : Page). (put_all names x es).out) same-page in
            let set : types' ≡ (put_all names (page (head_answer st survey (length b))) es).types = k.2 ∙ ap (λ (x : Page). (put_all names x es).types) same-page in
            rw (is, wrote, set) opens.1),
      )
