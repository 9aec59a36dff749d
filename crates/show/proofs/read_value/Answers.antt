-- `show::read_value` meets its contract: type by type.
use mathlib.Core.Path.{refl, ◌∙◌}
use mathlib.Core.Logic.{⊎_elim, inl, inr}
use borrow.Author.Tests.{ne_eqb}
use Rattle.show.proofs.Values.{Plain, plain_key, plain_shows, decimal_shows, point_shows, counted_shows}
use Rattle.show.proofs.read_value.Goals as goal

pub returns-in-3 : goal.returns-in-3
returns-in-3 c = c.read_plain.ensures ∙ plain_shows _ _ _ 1 (plain_key 1 c.in-3.is (refl, refl, refl, refl))

pub returns-in-4 : goal.returns-in-4
returns-in-4 c = c.read_plain-in-4.ensures ∙ plain_shows _ _ _ 2 (plain_key 2 c.in-4.is (refl, refl, refl, refl))

pub returns-in-5 : goal.returns-in-5
returns-in-5 c = c.read_plain-in-5.ensures ∙ plain_shows _ _ _ 4 (plain_key 4 c.in-5.is (refl, refl, refl, refl))

pub returns-in-6 : goal.returns-in-6
returns-in-6 c =
    let t = c.args.t in
    let plain : Plain t 8 = ⊎_elim (λ e. plain_key 8 e (refl, refl, refl, refl)) (λ w. ⊎_elim (λ e. plain_key 8 e (refl, refl, refl, refl)) (λ e. plain_key 8 e (refl, refl, refl, refl)) w) c.in-6.is in
    c.read_plain-in-6.ensures ∙ plain_shows _ _ _ 8 plain

pub returns-in-9 : goal.returns-in-9
returns-in-9 c = c.read_counted.ensures ∙ counted_shows _ _ _ c.in-9.is

pub returns-in-22 : goal.returns-in-22
returns-in-22 c = c.read_decimal.ensures ∙ decimal_shows _ _ _ c.in-22.is

pub returns-in-26 : goal.returns-in-26
returns-in-26 c = c.read_point.ensures ∙ point_shows _ _ _ c.in-26.is

pub returns-in_default : goal.returns-in_default
returns-in_default c =
    let t = c.args.t in
    let n = c.in_default.in_default-own.rest in
    let not3 = ne_eqb t 3 n.0.0.0.0.0.0.1 in
    let not4 = ne_eqb t 4 n.0.0.0.0.0.1 in
    let not5 = ne_eqb t 5 n.0.0.0.0.1 in
    let not6 = ne_eqb t 6 (λ e. n.0.0.0.1 (inl e)) in
    let not8 = ne_eqb t 8 (λ e. n.0.0.0.1 (inr (inl e))) in
    let not11 = ne_eqb t 11 (λ e. n.0.0.0.1 (inr (inr e))) in
    let not9 = ne_eqb t 9 (λ e. n.0.0.1 (inl e)) in
    let not25 = ne_eqb t 25 (λ e. n.0.0.1 (inr (inl e))) in
    let not27 = ne_eqb t 27 (λ e. n.0.0.1 (inr (inr e))) in
    let not22 = ne_eqb t 22 n.0.1 in
    let not26 = ne_eqb t 26 n.1 in
    c.read_plain-in_default.ensures ∙ plain_shows _ _ _ 0 (simp (not3, not4, not5, not6, not8, not11, not22, not26), simp (not9, not25, not27), not22, not26)
