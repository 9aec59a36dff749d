-- Each turn puts one number more where the last one ended.
use Rattle.std.proofs.Common.{rules, arith, ◌≡◌, ℕ, ◌+◌, List, ◌++◌, take, get_or, refl, sym, ap, ◌∙◌, add-one, zero-add}
use Rattle.listing.specs.Text.{spelled, behind_of, words_of}
use Rattle.listing.proofs.put_line.Goals as goal

-- a number more
turn : (numbers l l' : List ℕ) (i end r after : ℕ) → take end l ≡ words_of numbers 0 i → after ≡ behind_of i
    → take r l' ≡ take end l ++ spelled (get_or numbers i 0) after → take r l' ≡ words_of numbers 0 (i + 1)
unfolding words_of
turn numbers l l' i end r after before byte now' =
    now'
    ∙ ap (λ (t : List ℕ). t ++ spelled (get_or numbers i 0) after) before
    ∙ ap (λ (b : ℕ). words_of numbers 0 i ++ spelled (get_or numbers i 0) b) byte
    ∙ ap (λ (k : ℕ). words_of numbers 0 i ++ spelled (get_or numbers k 0) (behind_of i)) (sym (zero-add i))
    ∙ ap (words_of numbers 0) (sym (add-one i))

pub loop-i-init : goal.loop-i-init
unfolding words_of
loop-i-init c = (omega arith, refl, refl)

pub loop-i-preserved : goal.loop-i-preserved
loop-i-preserved c = (
  omega arith,
  turn _ c.loop-i.line _ _ c.loop-i.end _ _ c.loop-i.invariant.1 c.behind.ensures c.put_number-end.ensures.line_after,
  search rules,
)
