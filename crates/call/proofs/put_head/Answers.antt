-- `call::put_head` meets its contract: each part is written behind the last one. Assumes nothing.
use Prim.Native.Nat.{ℕ}
use native.Mathlib.Omega.{arith}
use mathlib.Core.Path.{refl, sym, ap, ◌∙◌}
use mathlib.Core.List.{List}
use mathlib.Core.Option.{some}
use lib.ListN.{length}
use Rattle.put.specs.Put.{put, sized}
use Rattle.put.proofs.Laws.{puts, puts_number, puts_both}
use Rattle.steps.specs.State.{closed}
use Rattle.call.proofs.Written.{begun_bytes}
use Rattle.call.proofs.put_head.Goals as goal

pub returns : goal.returns
returns c =
    let a = c.args in
    let text = sized (some a.procedure.now) in
    let p = puts_number a.out.now 0 4 0 (omega arith) c.number_at-edition.ensures in
    let q = puts_number c.number_at-edition.new.out c.number_at-edition.result 1 a.version (omega arith) c.number_at-name.ensures in
    let r = puts c.number_at-name.new.out c.number_at-name.result (length text) text refl (omega arith) c.text_at-data.ensures in
    let s = puts c.text_at-data.new.out c.text_at-data.result (length a.client.now) a.client.now refl (omega arith) c.bytes_at-count.ensures in
    let t = puts_number c.bytes_at-count.new.out c.bytes_at-count.result 2 0 (omega arith) c.number_at.ensures in
    (puts_both p (puts_both q (puts_both r (puts_both s t)))).is ∙ ap (λ (x : List ℕ). put a.out.now 0 x) (sym (begun_bytes a.version a.procedure.now a.client.now (closed 0) 0))
