-- What listing comes to, field by field. Outside the proof of `tour::act`, only here does `acted` unfold.
use Prim.Native.Nat.{ℕ, zero, suc, ◌+◌, ◌-◌, ◌*◌, ◌/◌, ◌%◌, ◌^◌, ◌≤◌, ◌<◌}
use mathlib.Core.Path.{◌≡◌, refl, sym, ◌∙◌, ap}
use mathlib.Core.Bool.{true, false, and-false}
use mathlib.Core.List.{List, [], ◌∷◌, ◌++◌}
use lib.ListN.{length, take, drop}
use lib.Seq.{sets, length-sets, take-nil}
use native.Mathlib.Omega.{arith}
use native.Mathlib.Nat.{mod-eq_of_lt}
use native.Mathlib.Decide.{dec_lt}
use borrow.Author.Tests.{le-leb, lt-leb, lt-ltb, le-ltb}
use Rattle.format.specs.Format.{Entry}
use Rattle.tally.specs.Task.{State, doing, six, wanted, acted, visited}
use Rattle.fields.specs.Questions.{sixes}

-- the same, but for how many were seen
abbrev pub counted : State → ℕ → State
counted st n = let t = st.task in doing (record { first = t.first; offset = t.offset; seen = n; taken = t.taken; last = t.last }) st.out

-- each of some entries
unfoldable pub Each : (Entry → Type 0) → List Entry → Type 0
Each P [] = Unit
Each P (e ∷ es) = P e × Each P es

-- an entry that isn't written at any number below top
abbrev Passed : State → ℕ → Entry → Type 0
Passed st top e = (n : ℕ) → n < top → wanted (counted st n).task (e.at + e.size) (length st.out) ≡ false

one_more : (n : ℕ) → n + 1 < 2 ^ 64 → (n + 1) % 2 ^ 64 ≡ n + 1
one_more n h = mod-eq_of_lt h

pub step_past : (st : State) (e : Entry) → st.task.seen + 1 < 2 ^ 64 → wanted st.task (e.at + e.size) (length st.out) ≡ false
    → acted st e ≡ counted st (st.task.seen + 1)
unfolding acted
step_past st e h not = rw (not, one_more st.task.seen h)

pub passes : (top : ℕ) (es : List Entry) (st : State) → st.task.seen + length es ≤ top → top < 2 ^ 64 → Each (Passed st top) es → visited st es ≡ counted st (st.task.seen + length es)
unfolding visited Each
passes top [] st h small w = let same : st.task.seen + 0 ≡ st.task.seen = omega arith in rw same
passes top (e ∷ es) st h small w =
    let n = st.task.seen in
    let inner : visited (counted st (n + 1)) es ≡ counted st (n + 1 + length es) = passes top es (counted st (n + 1)) (omega arith) small w.1 in
    let sum : n + 1 + length es ≡ n + suc (length es) = omega arith in
    rw (step_past st e (omega arith) (w.0 n (omega arith)), ← sum) inner

-- entries before the first that is asked for
pub early : (st : State) (top : ℕ) → top ≤ st.task.first → (es : List Entry) → Each (Passed st top) es
unfolding Each
early st top h [] = tt
early st top h (e ∷ es) = ((λ n low. rw (lt-leb st.task.first n (omega arith))), early st top h es)

-- entries for which there is no room
pub full : (st : State) (top : ℕ) → length st.out / 6 ≤ st.task.taken → (es : List Entry) → Each (Passed st top) es
unfolding Each
full st top h [] = tt
full st top h (e ∷ es) = ((λ n low. rw (le-ltb st.task.taken (length st.out / 6) h) (simp (and-false))), full st top h es)

pub each_drop : (P : Entry → Type 0) (n : ℕ) (es : List Entry) → Each P es → Each P (drop n es)
unfolding Each
each_drop P zero es w = w
each_drop P (suc n) [] w = tt
each_drop P (suc n) (e ∷ es) w = each_drop P n es w.1

-- a run of stores, and then another
sets_both : (l : List ℕ) (p : ℕ) (bs cs : List ℕ) → sets l p (bs ++ cs) ≡ sets (sets l p bs) (p + length bs) cs
sets_both l p [] cs = let same : p + 0 ≡ p = omega arith in rw same
sets_both l p (b ∷ bs) cs = let same : p + suc (length bs) ≡ suc p + length bs = omega arith in rw same (sets_both _ (suc p) bs cs)

pub length-sixes : (es : List Entry) → length (sixes es) ≡ 6 * length es
unfolding sixes
length-sixes [] = refl
length-sixes (e ∷ es) = let more = length-sixes es in omega arith

visited_cons : (st : State) (e : Entry) (es : List Entry) → visited st (e ∷ es) ≡ visited (acted st e) es
unfolding visited
visited_cons st e es = refl

sixes_cons : (e : Entry) (es : List Entry) → sixes (e ∷ es) ≡ six e ++ sixes es
unfolding sixes
sixes_cons e es = refl

-- the same, with an entry more that is written
abbrev pub taken_one : State → Entry → State
taken_one st e =
    let t = st.task in
    doing (record { first = t.first; offset = t.offset; seen = t.seen + 1; taken = t.taken + 1; last = t.seen }) (sets st.out (6 * t.taken) (six e))

-- an entry that is written
pub step_take : (st : State) (e : Entry) → st.task.seen + 1 < 2 ^ 64 → wanted st.task (e.at + e.size) (length st.out) ≡ true
    → acted st e ≡ taken_one st e
unfolding acted
step_take st e h is = rw (is, one_more st.task.seen h)

-- entries that are written while they fit
pub record Filled (st : State) (es : List Entry) (after : State) : Type 0 where
  pub seen : after.task.seen ≡ st.task.seen + length es
  pub taken : after.task.taken ≡ st.task.taken + length (take (length st.out / 6 - st.task.taken) es)
  pub out : after.out ≡ sets st.out (6 * st.task.taken) (sixes (take (length st.out / 6 - st.task.taken) es))

unfoldable pub Asked : State → Entry → Type 0
Asked st e = st.task.offset < e.at + e.size

module _ (st : State) (e : Entry) (es : List Entry) (reached : st.task.first ≤ st.task.seen) (small : st.task.seen + suc (length es) < 2 ^ 64) where
  abbrev next : State
  next = taken_one st e

  fill_one : st.task.offset < e.at + e.size → st.task.taken < length st.out / 6 → Filled next es (visited next es) → Filled st (e ∷ es) (visited st (e ∷ es))
  fill_one asked room w =
      let is : wanted st.task (e.at + e.size) (length st.out) ≡ true =
      simp (le-leb _ _ reached, lt-ltb _ _ asked, lt-ltb _ _ room) in
      let same : acted st e ≡ next = step_take st e (omega arith) is in
      let whole : visited st (e ∷ es) ≡ visited next es = visited_cons st e es ∙ ap (λ (x : State). visited x es) same in
      let size : length next.out ≡ length st.out = length-sets st.out (6 * st.task.taken) (six e) in
      let left : length st.out / 6 - st.task.taken ≡ suc (length st.out / 6 - (st.task.taken + 1)) = omega arith in
      let place : 6 * (st.task.taken + 1) ≡ 6 * st.task.taken + 6 = omega arith in
      let w₁ : (visited next es).task.seen ≡ st.task.seen + 1 + length es = w.seen in
      let w₂ : (visited next es).task.taken ≡ st.task.taken + 1 + length (take (length st.out / 6 - (st.task.taken + 1)) es) = rw size at w.taken in
      let w₃ : (visited next es).out ≡ sets next.out (6 * st.task.taken + 6) (sixes (take (length st.out / 6 - (st.task.taken + 1)) es)) = rw (size, place) at w.out in
      record {
        seen = rw whole (w₁ ∙ omega arith);
        taken = rw (whole, left) (w₂ ∙ omega arith);
        out = rw (whole, left, sixes_cons) (w₃ ∙ sym (sets_both st.out (6 * st.task.taken) (six e) (sixes (take (length st.out / 6 - (st.task.taken + 1)) es))));
      }

  fill_none : length st.out / 6 ≤ st.task.taken → Filled st (e ∷ es) (visited st (e ∷ es))
  unfolding sixes
  fill_none over =
      let w = passes (st.task.seen + suc (length es)) (e ∷ es) st (omega arith) small (full st (st.task.seen + suc (length es)) over (e ∷ es)) in
      let none : length st.out / 6 - st.task.taken ≡ 0 = omega arith in
      record { seen = rw w; taken = rw (w, none) (omega arith); out = rw (w, none) }

pub fills : (es : List Entry) (st : State) → st.task.first ≤ st.task.seen → Each (Asked st) es → st.task.seen + length es < 2 ^ 64 → Filled st es (visited st es)
unfolding visited Each Asked sixes
fills [] st reached asked small = record { seen = omega arith; taken = simp take-nil (omega arith); out = simp take-nil }
fills (e ∷ es) st reached asked small = by_room (λ size. fills es (next st e es reached small) (omega arith) asked.1 (omega arith)) (dec_lt st.task.taken (length st.out / 6))
  where
    by_room : (length (sets st.out (6 * st.task.taken) (six e)) ≡ length st.out → Filled (next st e es reached small) es (visited (next st e es reached small) es))
        → Dec (st.task.taken < length st.out / 6) → Filled st (e ∷ es) (visited st (e ∷ es))
    by_room more (yes room) = fill_one st e es reached small asked.0 room (more (length-sets st.out (6 * st.task.taken) (six e)))
    by_room more (no room) = fill_none st e es reached small (omega arith)
