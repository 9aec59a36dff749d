-- The whole tour: what it says of a list of fields that stand side by side.
use Prim.Native.Nat.{ℕ, suc, ◌+◌, ◌-◌, ◌*◌, ◌/◌, ◌^◌, ◌≤◌, ◌<◌}
use mathlib.Core.Path.{◌≡◌, sym, ◌∙◌, ap}
use mathlib.Core.Bool.{Bool, true, false, ◌&&◌, and-false}
use mathlib.Core.List.{List, [], ◌∷◌}
use lib.ListN.{length, take, drop, length-take, length-drop, take-append-drop, drop_of_length-le}
use lib.Seq.{sets, sets-eq, length-sets, take-nil, length-take-le}
use lib.Dec.{leb, ltb}
use native.Mathlib.Omega.{arith}
use native.Mathlib.Decide.{dec_lt}
use borrow.Author.Tests.{le-leb, lt-ltb, le-ltb}
use Rattle.format.specs.declared.Fault.{Fault}
use Rattle.format.specs.declared.Fault.TheVariants.{PastEnd}
use Rattle.format.specs.Result.{Res, ok, no as refused, pick}
use Rattle.format.specs.Format.{Entry}
use Rattle.format.proofs.Took.{Tiles}
use Rattle.format.proofs.Results.{no_ok}
use Rattle.tally.specs.Task.{State, doing, list_task, six, wanted, acted, visited}
use Rattle.tally.proofs.Visits.{visited_both}
use Rattle.fields.specs.Questions.{owner_from, window_of, sixes, over}
use Rattle.fields.proofs.Listing.{counted, Each, Asked, passes, early, full, taken_one, step_take, step_past, fills, each_drop, length-sixes}

-- the task that lists, before any field
abbrev pub listing : ℕ → ℕ → List ℕ → State
listing first offset out = doing (list_task first offset) out

-- each of some entries side by side ends past 0, and there are at most as many as bytes
pub tiles_asked : (o end : ℕ) (es : List Entry) → Tiles o es end → (st : State) → st.task.offset ≡ 0 → Each (Asked st) es
unfolding Tiles Each Asked
tiles_asked o end [] t st z = tt
tiles_asked o end (e ∷ es) t st z = let first = t.0 in let some = t.1 in (omega arith, tiles_asked (o + e.size) end es t.2 st z)

pub tiles_few : (o end : ℕ) (es : List Entry) → Tiles o es end → o + length es ≤ end
unfolding Tiles
tiles_few o end [] t = omega arith
tiles_few o end (e ∷ es) t = let some = t.1 in let more = tiles_few (o + e.size) end es t.2 in omega arith

-- a window that is written
pub record Windowed (es : List Entry) (first : ℕ) (out : List ℕ) (after : State) : Type 0 where
  pub seen : after.task.seen ≡ length es
  pub taken : after.task.taken ≡ length (window_of es first (length out))
  pub numbers : after.out ≡ over (sixes (window_of es first (length out))) out

module _ (es : List Entry) (first : ℕ) (out : List ℕ) (small : length es < 2 ^ 64) (asked : Each (Asked (listing first 0 out)) es) where
  none_there : length es ≤ first → Windowed es first out (visited (listing first 0 out) es)
  unfolding sixes
  none_there past =
      let st = listing first 0 out in
      let w : visited st es ≡ counted st (length es) = passes (length es) es st (omega arith) small (early st (length es) past es) ∙ ap (counted st) (omega arith) in
      let none : drop first es ≡ [] = drop_of_length-le es {i = first} past in
      record { seen = rw w; taken = rw (w, none) (simp take-nil); numbers = rw (w, none) (simp take-nil) }

  some_there : first < length es → Windowed es first out (visited (listing first 0 out) es)
  unfolding Asked
  some_there low =
      let st = listing first 0 out in
      let a = take first es in
      let d = drop first es in
      let size : length a ≡ first = length-take-le first es (omega arith) in
      let rest : length d ≡ length es - first = length-drop first es in
      let w : visited st a ≡ counted st first = passes first a st (omega arith) (omega arith) (early st first (omega arith) a) ∙ ap (counted st) (omega arith) in
      let both : visited st es ≡ visited (counted st first) d = ap (visited st) (sym (take-append-drop first es)) ∙ visited_both st a d ∙ ap (λ (x : State). visited x d) w in
      let f = fills d (counted st first) (omega arith) (each_drop (Asked st) first es asked) (omega arith) in
      let room : length out / 6 - 0 ≡ length out / 6 = omega arith in
      let vs = sixes (take (length out / 6) d) in
      let long : length vs ≡ 6 * length (take (length out / 6) d) = length-sixes (take (length out / 6) d) in
      let few = length-take-few (length out / 6) d in
      let f₁ : (visited (counted st first) d).task.seen ≡ first + length d = f.seen in
      let f₂ : (visited (counted st first) d).task.taken ≡ 0 + length (take (length out / 6) d) = rw room at f.taken in
      let f₃ : (visited (counted st first) d).out ≡ sets out (6 * 0) vs = rw room at f.out in
      record {
        seen = rw both (f₁ ∙ omega arith);
        taken = rw both (f₂ ∙ omega arith);
        numbers = rw both (f₃ ∙ front out vs (omega arith));
      }
    where
      length-take-few : (n : ℕ) (l : List Entry) → length (take n l) ≤ n
      length-take-few n l = rw length-take (omega arith)

      front : (l vs : List ℕ) → length vs ≤ length l → sets l 0 vs ≡ over vs l
      front l vs h = let z : 0 + length vs ≡ length vs = omega arith in rw z at (sets-eq vs l 0 (omega arith))

  pub windowed : Windowed es first out (visited (listing first 0 out) es)
  windowed = by_test (dec_lt first (length es))
    where
      by_test : Dec (first < length es) → Windowed es first out (visited (listing first 0 out) es)
      by_test (yes low) = some_there low
      by_test (no high) = none_there (omega arith)

-- a tour that looks for the owner of the byte k, before it is found and after
abbrev pub owning : ℕ → List ℕ → ℕ → State
owning k out n = counted (listing 0 k out) n

abbrev pub owned : ℕ → List ℕ → ℕ → Res (Entry × ℕ) → State
owned k out n (ok w) = doing (record { first = 0; offset = k; seen = n; taken = 1; last = w.1 }) (sets out 0 (six w.0))
owned k out n (refused f p) = owning k out n

module _ (k : ℕ) (out : List ℕ) (six-long : length out ≡ 6) where
  owns_first : (e : Entry) (es : List Entry) (n : ℕ) → e.at ≤ k → k < e.at + e.size → n + suc (length es) < 2 ^ 64
      → visited (owning k out n) (e ∷ es) ≡ owned k out (n + suc (length es)) (owner_from n (e ∷ es) k)
  unfolding visited owner_from
  owns_first e es n low high small =
      let st = owning k out n in
      let found : State = taken_one st e in
      let is : wanted (owning k out n).task (e.at + e.size) (length out) ≡ true = rw (le-leb 0 n (omega arith), lt-ltb k (e.at + e.size) high, six-long) in
      let same : acted st e ≡ found = step_take st e (omega arith) is in
      let long : length found.out ≡ 6 = length-sets out 0 (six e) ∙ six-long in
      let over : length found.out / 6 ≤ 1 = rw long (omega arith) in
      let rest : visited found es ≡ counted found (n + 1 + length es) = passes (n + 1 + length es) es found (omega arith) (omega arith) (full found (n + 1 + length es) over es) in
      let sum : n + 1 + length es ≡ n + suc (length es) = omega arith in
      rw (le-leb e.at k low, lt-ltb k (e.at + e.size) high, same, ← sum) rest

  owns_later : (e : Entry) (es : List Entry) (n : ℕ) → e.at + e.size ≤ k → n + suc (length es) < 2 ^ 64
      → visited (owning k out (n + 1)) es ≡ owned k out (n + 1 + length es) (owner_from (n + 1) es k)
      → visited (owning k out n) (e ∷ es) ≡ owned k out (n + suc (length es)) (owner_from n (e ∷ es) k)
  unfolding visited owner_from
  owns_later e es n low small w =
      let not_yet : ltb k (e.at + e.size) ≡ false = le-ltb k (e.at + e.size) low in
      let skips : wanted (owning k out n).task (e.at + e.size) (length out) ≡ false = rw not_yet (simp and-false) in
      let other : leb e.at k && ltb k (e.at + e.size) ≡ false = rw not_yet (simp and-false) in
      let same : acted (owning k out n) e ≡ owning k out (n + 1) = step_past (owning k out n) e (omega arith) skips in
      let sum : n + 1 + length es ≡ n + suc (length es) = omega arith in
      rw (other, same, ← sum) w

  pub owns : (es : List Entry) (o end n : ℕ) → Tiles o es end → o ≤ k → n + length es < 2 ^ 64 → visited (owning k out n) es ≡ owned k out (n + length es) (owner_from n es k)
  unfolding Tiles visited owner_from
  owns [] o end n t low small = let same : n + 0 ≡ n = omega arith in rw same
  owns (e ∷ es) o end n t low small = by_test (λ h. owns es (o + e.size) end (n + 1) t.2 h (omega arith)) (dec_lt k (o + e.size))
    where
      by_test : (o + e.size ≤ k → visited (owning k out (n + 1)) es ≡ owned k out (n + 1 + length es) (owner_from (n + 1) es k))
          → Dec (k < o + e.size) → visited (owning k out n) (e ∷ es) ≡ owned k out (n + suc (length es)) (owner_from n (e ∷ es) k)
      by_test more (yes high) = owns_first e es n (omega (arith, t.0)) (omega (arith, t.0)) small
      by_test more (no high) = owns_later e es n (omega (arith, t.0)) small (more (omega arith))

-- no owner is an offset past the end
pub owner_past : (es : List Entry) (n k : ℕ) (f : Fault) (p : ℕ) → owner_from n es k ≡ refused f p → ◌≡◌ {A = Res (Entry × ℕ)} (refused f p) (refused PastEnd 0)
unfolding owner_from
owner_past [] n k f p e = sym e
owner_past (x ∷ es) n k f p e = by_test (leb x.at k && ltb k (x.at + x.size)) (owner_past es (n + 1) k f p) e
  where
    by_test : (t : Bool) → (owner_from (n + 1) es k ≡ refused f p → ◌≡◌ {A = Res (Entry × ℕ)} (refused f p) (refused PastEnd 0))
        → pick {A = Res (Entry × ℕ)} t (ok (x, n)) (owner_from (n + 1) es k) ≡ refused f p → ◌≡◌ {A = Res (Entry × ℕ)} (refused f p) (refused PastEnd 0)
    by_test true more h = absurd (no_ok (sym h))
    by_test false more h = more h
