-- `text::sequence_at` meets its contract: the first byte says which lines of the grammar are left. Assumes nothing.
use mathlib.Core.Path.{sym, ◌∙◌, ap, ap₂}
use Prim.Native.Nat.{ℕ, ◌+◌}
use lib.ListN.{get_or}
use Rattle.format.specs.Text.{sequence}
use Rattle.text.proofs.Sequences.{low_is}
use Rattle.text.proofs.sequence_at.Goals as goal

pub returns-then-a-le-HIGHEST_ASCII : goal.returns-then-a-le-HIGHEST_ASCII
returns-then-a-le-HIGHEST_ASCII c = sym (low_is _ _ _ _ c.if-a-le-HIGHEST_ASCII.true)

pub returns-then-a-le223 : goal.returns-then-a-le223
returns-then-a-le223 c =
    let a = c.args in
    let b = a.b.now in
    c.two.ensures (get_or b (a.i + 2) 0) (get_or b (a.i + 3) 0) ∙ ap (λ (x : ℕ). sequence (get_or b a.i 0) x (get_or b (a.i + 2) 0) (get_or b (a.i + 3) 0)) c.byte_or_0.ensures

pub returns-then-a-le239 : goal.returns-then-a-le239
returns-then-a-le239 c =
    let a = c.args in
    let b = a.b.now in
    c.three.ensures (get_or b (a.i + 3) 0) ∙ ap₂ (λ (x y : ℕ). sequence (get_or b a.i 0) x y (get_or b (a.i + 3) 0)) c.byte_or_0-then-a-le239.ensures c.byte_or_0-then-a-le239-2.ensures

pub returns : goal.returns
returns c =
    let a = c.args in
    let b = a.b.now in
    let third = c.byte_or_0-3.ensures in
    c.four.ensures
    ∙ ap₂ (λ (x y : ℕ). sequence (get_or b a.i 0) x y c.byte_or_0-4.result) c.byte_or_0-2.ensures third
    ∙ ap (sequence (get_or b a.i 0) (get_or b (a.i + 1) 0) (get_or b (a.i + 2) 0)) c.byte_or_0-4.ensures
