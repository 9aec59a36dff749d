-- `login::server_at` meets its contract: each part is written behind the last one. Assumes nothing.
use Prim.Native.Nat.{ℕ}
use native.Mathlib.Omega.{arith}
use mathlib.Core.Path.{sym, ap, ◌∙◌}
use mathlib.Core.List.{List}
use mathlib.Core.Option.{some}
use Rattle.put.specs.Put.{put, sized}
use Rattle.put.proofs.Laws.{puts_number, puts_both, sized_some}
use Rattle.login.specs.Parts.{welcome}
use Rattle.login.proofs.Parts.{puts_whole, server_bytes}
use Rattle.login.proofs.server_at.Goals as goal

pub text_at-requires : goal.text_at-requires
text_at-requires c =
    let l = sized_some c.args.build.now in
    let p = puts_number c.args.out.now c.args.at 4 c.args.host (omega arith) c.number_at-second.ensures in
    let q = puts_number c.number_at-second.new.out c.number_at-second.result 8 c.args.connection (omega arith) c.number_at-third.ensures in
    let r = puts_number c.number_at-third.new.out c.number_at-third.result 8 c.args.start (omega arith) c.number_at-fourth.ensures in
    let s = puts_number c.number_at-fourth.new.out c.number_at-fourth.result 4 c.args.leader (omega arith) c.number_at-last.ensures in
    omega arith

pub returns : goal.returns
returns c =
    let l = sized_some c.args.build.now in
    let p = puts_number c.args.out.now c.args.at 4 c.args.host (omega arith) c.number_at-second.ensures in
    let q = puts_number c.number_at-second.new.out c.number_at-second.result 8 c.args.connection (omega arith) c.number_at-third.ensures in
    let r = puts_number c.number_at-third.new.out c.number_at-third.result 8 c.args.start (omega arith) c.number_at-fourth.ensures in
    let s = puts_number c.number_at-fourth.new.out c.number_at-fourth.result 4 c.args.leader (omega arith) c.number_at-last.ensures in
    let t = puts_whole c.number_at-last.new.out c.number_at-last.result (sized (some c.args.build.now)) (omega arith) c.text_at.ensures in
    (puts_both p (puts_both q (puts_both r (puts_both s t)))).is
    ∙ ap (λ (bs : List ℕ). put c.args.out.now c.args.at bs) (sym (server_bytes (welcome c.args.host c.args.connection c.args.start c.args.leader c.args.build.now)))
