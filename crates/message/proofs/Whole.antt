-- A whole message: its length, its version, its content by its layout, and that nothing is left over.
use Prim.Native.Nat.{ℕ, ◌+◌, ◌≤◌, ◌<◌}
use mathlib.Core.Path.{◌≡◌, refl, sym, ◌∙◌, ap}
use mathlib.Core.Bool.{Bool, true, false, ◌||◌}
use mathlib.Core.List.{List}
use lib.ListN.{length}
use lib.Dec.{leb, ltb, eqb}
use borrow.Author.Tests.{eq-eqb, ne_eqb, lt-ltb, le-ltb, le-leb, lt-leb}
use Rattle.format.specs.declared.Fault.{Fault}
use Rattle.format.specs.declared.Fault.TheVariants.{Short, Negative, Limit, Extra, Version, WireType}
use Rattle.format.specs.Result.{Res, ok, no, bind, pick}
use Rattle.format.specs.Number.{half}
use Rattle.format.specs.Format.{Format, number, ruled, both}
use Rattle.format.specs.Message.{Message, message, content_of, a_login_request, the_login_request, login_request, a_login_response, the_login_response, login_response, an_invocation, the_invocation, invocation, a_response, the_response, response, newest, is_layout, most_message, filled, read_message}
use Rattle.format.proofs.Results.{ok_same, spared, bound}
use Rattle.scan.specs.Shown.{shown_next}
use Rattle.scan.proofs.Answers.{took}
use Rattle.scan.proofs.Steps.{into_ends}
use Rattle.scan.proofs.Params.{number_fields}
use Rattle.message.specs.Inner.{measured}
use Rattle.message.proofs.Rooms.{bind_bind}

-- the length, test by test
module _ (m : List ℕ) where
  pub no_length : {f : Fault} {p : ℕ} → (number 4 0).read m 0 ≡ no f p → measured m ≡ no f p
  unfolding measured
  no_length e = rw (number_fields m 0 4 1 ∙ e)

  module _ {n next : ℕ} (got : (number 4 0).read m 0 ≡ ok (n, next)) where
    pub zero_length : n ≡ 0 → measured m ≡ no Negative 0
    unfolding measured
    zero_length h = rw (number_fields m 0 4 1 ∙ got, eq-eqb n 0 h)

    module _ (some : n ≡ 0 → ⊥) where
      pub negative_length : half 4 ≤ n → measured m ≡ no Negative 0
      unfolding measured
      negative_length h = rw (number_fields m 0 4 1 ∙ got, ne_eqb n 0 some, le-leb (half 4) n h)

      module _ (positive : n < half 4) where
        pub long_length : most_message < n → measured m ≡ no Limit 0
        unfolding measured
        long_length h = rw (number_fields m 0 4 1 ∙ got, ne_eqb n 0 some, lt-leb (half 4) n positive, lt-ltb most_message n h)

        module _ (few : n ≤ most_message) where
          pub short_message : length m < 4 + n → measured m ≡ no Short 0
          unfolding measured
          short_message h = rw (number_fields m 0 4 1 ∙ got, ne_eqb n 0 some, lt-leb (half 4) n positive, le-ltb most_message n few, lt-ltb (length m) (4 + n) h)

          module _ (fit : 4 + n ≤ length m) where
            pub long_message : 4 + n < length m → measured m ≡ no Extra (4 + n)
            unfolding measured
            long_message h = rw (number_fields m 0 4 1 ∙ got, ne_eqb n 0 some, lt-leb (half 4) n positive, le-ltb most_message n few, le-ltb (length m) (4 + n) fit, lt-ltb (4 + n) (length m) h)

            pub whole_message : length m ≤ 4 + n → measured m ≡ ok (n, next)
            unfolding measured
            whole_message h = rw (number_fields m 0 4 1 ∙ got, ne_eqb n 0 some, lt-leb (half 4) n positive, le-ltb most_message n few, le-ltb (length m) (4 + n) fit, le-ltb (4 + n) (length m) h)

  -- what follows the length stands at 4
  length-ends : (n next : ℕ) → measured m ≡ ok (n, next) → next ≡ 4
  unfolding measured
  length-ends n next e =
      let p = bound ((number 4 1).read m 0) e in
      let k = p.0.0 in
      let t₁ = spared (eqb k 0 || leb (half 4) k) _ _ p.2 in
      let t₂ = spared (ltb most_message k) _ _ t₁.1 in
      let t₃ = spared (ltb (length m) (4 + k)) _ _ t₂.1 in
      let t₄ = spared (ltb (4 + k) (length m)) _ _ t₃.1 in
      sym (ap (λ (q : ℕ × ℕ). q.1) (ok_same t₄.1)) ∙ (took 4 1 m 0 k p.0.1 p.1).place

-- the content, by the layout
module _ (s : List ℕ) (at layout version : ℕ) where
  abbrev Ends : {A : Type 0} → Res (A × ℕ) → Type 0
  Ends r = shown_next r ≡ shown_next ((content_of layout version).read s at)

  pub content_1 : layout ≡ 1 → Ends ((login_request version).read s at)
  unfolding content_of
  content_1 e = rw e (sym (into_ends a_login_request the_login_request (login_request version) s at))

  pub content_2 : layout ≡ 2 → Ends (login_response.read s at)
  unfolding content_of
  content_2 e = rw e (sym (into_ends a_login_response the_login_response login_response s at))

  pub content_3 : layout ≡ 3 → Ends (invocation.read s at)
  unfolding content_of
  content_3 e = rw e (sym (into_ends an_invocation the_invocation invocation s at))

  pub content_4 : (layout ≡ 1 → ⊥) → (layout ≡ 2 → ⊥) → (layout ≡ 3 → ⊥) → Ends ((response (eqb layout 4)).read s at)
  unfolding content_of
  content_4 a b c = rw (ne_eqb layout 1 a, ne_eqb layout 2 b, ne_eqb layout 3 c) (sym (into_ends a_response the_response (response (eqb layout 4)) s at))

-- the version, which is at most the newest that the layout has
abbrev pub versioned : ℕ → Format ℕ
versioned layout = ruled (λ n. leb n (newest layout)) Version (number 1 2)

pub message_ends : (s : List ℕ) (at layout : ℕ) → shown_next ((message layout).read s at) ≡ shown_next ((both (versioned layout) (content_of layout)).read s at)
unfolding message
message_ends s at layout = into_ends _ _ (both (versioned layout) (content_of layout)) s at

-- the whole: what comes of a message, step by step
module _ {A B : Type 0} where
  bind_pick : (t : Bool) (x y : Res A) (g : A → Res B) → bind (pick t x y) g ≡ pick t (bind x g) (bind y g)
  bind_pick true x y g = refl
  bind_pick false x y g = refl

module _ (layout : ℕ) (m : List ℕ) where
  read_is : read_message layout m ≡ pick (is_layout layout) (bind (measured m) (λ p. bind ((message layout).read m 4) (filled m))) (no WireType 0)
  unfolding measured
  read_is = sym (simp (bind_bind, bind_pick))

  pub unknown : is_layout layout ≡ false → read_message layout m ≡ no WireType 0
  unknown e = read_is ∙ rw e

  module _ (known : is_layout layout ≡ true) where
    pub bad_length : {f : Fault} {p : ℕ} → measured m ≡ no f p → read_message layout m ≡ no f p
    bad_length e = read_is ∙ rw (known, e)

    module _ {n next : ℕ} (e : measured m ≡ ok (n, next)) where
      after_length : read_message layout m ≡ bind ((message layout).read m next) (filled m)
      after_length = read_is ∙ rw (known, e, length-ends m n next e)

      pub bad_message : {f : Fault} {p : ℕ} → (message layout).read m next ≡ no f p → read_message layout m ≡ no f p
      bad_message h = after_length ∙ rw h

      pub left_over : {r : Message} {end : ℕ} → (message layout).read m next ≡ ok (r, end) → (end ≡ length m → ⊥) → read_message layout m ≡ no Extra end
      left_over {end = end} h other = after_length ∙ rw (h, ne_eqb end (length m) other)

      pub all_read : {r : Message} {end : ℕ} → (message layout).read m next ≡ ok (r, end) → end ≡ length m → read_message layout m ≡ ok r
      all_read {end = end} h same = after_length ∙ rw (h, eq-eqb end (length m) same)
