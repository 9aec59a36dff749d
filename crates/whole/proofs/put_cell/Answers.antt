-- `whole::put_cell` meets its contract: by its type, a body or a number is written. Assumes nothing.
use Prim.Native.Nat.{ℕ, ◌+◌, ◌≤◌}
use mathlib.Core.Path.{sym, ap, ◌∙◌, subst}
use mathlib.Core.List.{List}
use lib.ListN.{length}
use Rattle.format.proofs.Numbers.{length-num_bytes}
use Rattle.put.specs.Put.{put}
use Rattle.whole.proofs.Values.{laid_body, laid_fixed}
use Rattle.whole.proofs.Sures.{is_body, is_fixed}
use Rattle.whole.proofs.put_cell.Goals as goal

pub put_body-requires : goal.put_body-requires
put_body-requires c =
    let a = c.args in
    (c.requires.stands (is_body a.t c.in-9.is), subst (λ (bs : List ℕ). a.at + length bs ≤ length a.out.now) (laid_body a.bytes.now a.t a.a a.b (is_body a.t c.in-9.is)) c.requires.room)

pub put_fixed-requires : goal.put_fixed-requires
put_fixed-requires c =
    let a = c.args in
    subst (λ (n : ℕ). a.at + n ≤ length a.out.now) (ap length (laid_fixed a.bytes.now a.t a.a a.b (is_fixed a.t c.in_default.in_default-own.rest.1)) ∙ length-num_bytes _ _) c.requires.room

pub returns-in-9 : goal.returns-in-9
returns-in-9 c =
    let a = c.args in
    let e = (laid_body a.bytes.now a.t a.a a.b (is_body a.t c.in-9.is)) in
    let w = c.put_body.ensures in
    (w.0 ∙ ap (λ (bs : List ℕ). a.at + length bs) (sym e), w.1 ∙ ap (λ (bs : List ℕ). put a.out.now a.at bs) (sym e))

pub returns-in_default : goal.returns-in_default
returns-in_default c =
    let a = c.args in
    let e = (laid_fixed a.bytes.now a.t a.a a.b (is_fixed a.t c.in_default.in_default-own.rest.1)) in
    let w = c.put_fixed.ensures in
    (w.0 ∙ ap (λ (n : ℕ). a.at + n) (sym (ap length e ∙ length-num_bytes _ _)), w.1 ∙ ap (λ (bs : List ℕ). put a.out.now a.at bs) (sym e))
