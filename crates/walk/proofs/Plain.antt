-- Names of elements and keys have 1 to 64 bytes and none that is escaped, so a number can be read off the bytes as they are written, and what has one need not be measured.
use Prim.Native.Nat.{ℕ, suc, ◌+◌, ◌<◌}
use mathlib.Core.Path.{◌≡◌, refl, sym, ap, ◌∙◌, subst}
use mathlib.Core.Bool.{Bool, true, false, ◌&&◌, not}
use mathlib.Core.Option.{Option, none, some}
use mathlib.Core.List.{List, [], ◌∷◌}
use native.Mathlib.Omega.{arith}
use lib.ListN.{length}
use lib.Dec.{eqb, leb, ltb}
use borrow.Author.Tests.{ltb-true}
use Rattle.definition.specs.Text.{same, place_in, is_allowed, all_allowed}
use Rattle.definition.specs.Elements.{element_names, key_names, number_in, tag_of, key_of}
use Rattle.definition.specs.Event.{legible, unescape_from, prepend, if_allowed}
use Rattle.walk.specs.Views.{Scan}
use Rattle.walk.specs.Views.{measured, counted}
use Rattle.walk.specs.Walk.{fits, AsWritten}
use Rattle.definition.proofs.Base.{true_is_false, none_is_some, some_inj, and_left, and_right, bool_ext, same_refl, same_eq, not_of}
use Rattle.definition.proofs.Events.{allowed_same}

unfoldable is_plain : ℕ → Bool
is_plain b = is_allowed b && not (eqb b 92) && not (eqb b 10)

unfoldable all_plain : List ℕ → Bool
unfolding is_plain
all_plain [] = true
all_plain (b ∷ bs) = elim (is_plain b) [ true ↦ all_plain bs | false ↦ false ]

-- Of 1 to 64 plain bytes.
unfoldable is_brief : List ℕ → Bool
unfolding all_plain
is_brief w = all_plain w && leb 1 (length w) && leb (length w) 64

unfoldable each_brief : List (List ℕ) → Bool
unfolding is_brief
each_brief [] = true
each_brief (w ∷ ws) = elim (is_brief w) [ true ↦ each_brief ws | false ↦ false ]

elements_brief : each_brief element_names ≡ true
unfolding element_names all_plain is_brief each_brief is_plain is_allowed
elements_brief = refl

keys_brief : each_brief key_names ≡ true
unfolding key_names all_plain is_brief each_brief is_plain is_allowed
keys_brief = refl

brief_plain : (w : List ℕ) → is_brief w ≡ true → all_plain w ≡ true
unfolding is_brief
brief_plain w e = and_left (all_plain w) (leb 1 (length w)) (and_left (all_plain w && leb 1 (length w)) (leb (length w) 64) e)

record Plain (b : ℕ) (bs : List ℕ) : Type 0 where
  allowed : is_allowed b ≡ true
  no_backslash : eqb b 92 ≡ false
  no_newline : eqb b 10 ≡ false
  rest : all_plain bs ≡ true

plain_head : (b : ℕ) (bs : List ℕ) → all_plain (b ∷ bs) ≡ true → Plain b bs
unfolding all_plain is_plain
plain_head b bs e = go (is_plain b) refl
  where
    go : (p : Bool) → is_plain b ≡ p → Plain b bs
    go true q =
        let x : (is_allowed b && not (eqb b 92)) ≡ true = and_left (is_allowed b && not (eqb b 92)) (not (eqb b 10)) q in
        record {
          allowed = and_left (is_allowed b) (not (eqb b 92)) x;
          no_backslash = not_of (eqb b 92) (and_right (is_allowed b) (not (eqb b 92)) x);
          no_newline = not_of (eqb b 10) (and_right (is_allowed b && not (eqb b 92)) (not (eqb b 10)) q);
          rest = rw (q, all_plain) at e;
        }
    go false q = true_is_false (sym (rw (q, all_plain) at e))

-- ---- plain bytes are read as they are written

unescaped_plain : (w : List ℕ) → all_plain w ≡ true → unescape_from false w ≡ some w
unfolding unescape_from prepend
unescaped_plain [] e = refl
unescaped_plain (b ∷ bs) e = let p : Plain b bs = plain_head b bs e in rw (p.no_backslash, unescape_from) (ap (prepend b) (unescaped_plain bs p.rest))

allowed_plain : (w : List ℕ) → all_plain w ≡ true → all_allowed w ≡ true
unfolding all_allowed
allowed_plain [] e = refl
allowed_plain (b ∷ bs) e = let p : Plain b bs = plain_head b bs e in rw (p.allowed, all_allowed) (allowed_plain bs p.rest)

legible_plain : (w : List ℕ) → all_plain w ≡ true → legible w ≡ some w
unfolding legible if_allowed
legible_plain w e = ap if_allowed (unescaped_plain w e) ∙ rw (allowed_plain w e, if_allowed)

-- ---- and written in no other way

prepended : (b : ℕ) (o : Option (List ℕ)) (w : List ℕ) → prepend b o ≡ some w → (v : List ℕ) × (o ≡ some v) × (b ∷ v ≡ w)
unfolding prepend
prepended b none w e = none_is_some w e
prepended b (some v) w e = (v, refl, some_inj [] (b ∷ v) w e)

written_plain : (w v : List ℕ) → all_plain w ≡ true → unescape_from false v ≡ some w → v ≡ w
unfolding unescape_from
written_plain w [] p e = some_inj [] [] w e
written_plain w (b ∷ bs) p e = go (eqb b 92) refl (λ x. written_plain x bs)
  where
    -- An escape gives a byte that is not plain.
    escape : (c : ℕ) (x : List ℕ) → all_plain (c ∷ x) ≡ true → (eqb c 10 ≡ true) → b ∷ bs ≡ w
    escape c x p e = true_is_false (sym e ∙ (plain_head c x p).no_newline)

    backslash : (x : List ℕ) → all_plain (92 ∷ x) ≡ true → b ∷ bs ≡ w
    backslash x p = true_is_false (plain_head 92 x p).no_backslash

    after : (cs : List ℕ) → unescape_from true cs ≡ some w → b ∷ bs ≡ w
    after [] f = none_is_some w f
    after (c ∷ cs) f = by_n (eqb c 110) refl
      where
        by_b : (q : Bool) → eqb c 92 ≡ q → eqb c 110 ≡ false → b ∷ bs ≡ w
        by_b true q n = let z = prepended 92 (unescape_from false cs) w (rw (n, unescape_from, q, unescape_from) at f) in backslash z.0 (subst (λ (x : List ℕ). all_plain x ≡ true) (sym z.2) p)
        by_b false q n = none_is_some w (rw (n, unescape_from, q, unescape_from) at f)

        by_n : (q : Bool) → eqb c 110 ≡ q → b ∷ bs ≡ w
        by_n true q = let z = prepended 10 (unescape_from false cs) w (rw (q, unescape_from) at f) in escape 10 z.0 (subst (λ (x : List ℕ). all_plain x ≡ true) (sym z.2) p) refl
        by_n false q = by_b (eqb c 92) refl q

    go : (q : Bool) → eqb b 92 ≡ q → ((x : List ℕ) → all_plain x ≡ true → unescape_from false bs ≡ some x → bs ≡ x) → b ∷ bs ≡ w
    go true q ih = after bs (rw (q, unescape_from) at e)
    go false q ih =
        let z = prepended b (unescape_from false bs) w (rw (q, unescape_from) at e) in
        let y : Plain b z.0 = plain_head b z.0 (subst (λ (x : List ℕ). all_plain x ≡ true) (sym z.2) p) in
        ap (λ (x : List ℕ). b ∷ x) (ih z.0 y.rest z.1) ∙ z.2

module _ (v x : List ℕ) (e : legible v ≡ some x) where
  same_plain : (w : List ℕ) → all_plain w ≡ true → same w v ≡ same w x
  unfolding legible
  same_plain w p =
      bool_ext (same w v) (same w x)
      (λ f. let z : w ≡ v = same_eq w v f in let y : w ≡ x = some_inj [] w x (sym (legible_plain w p) ∙ ap legible z ∙ e) in subst (λ (y : List ℕ). same w y ≡ true) y (same_refl w))
      (λ f. let z : w ≡ x = same_eq w x f in let y : v ≡ w = written_plain w v p (allowed_same (unescape_from false v) w (e ∙ ap (λ (y : List ℕ). some y) (sym z))) in subst (λ (y : List ℕ). same w y ≡ true) (sym y) (same_refl w))

  place_plain : (ns : List (List ℕ)) → each_brief ns ≡ true → place_in ns v ≡ place_in ns x
  unfolding place_in each_brief
  place_plain [] p = refl
  place_plain (n ∷ ns) p = go (is_brief n) (same n v) refl refl (place_plain ns)
    where
      go : (q r : Bool) → is_brief n ≡ q → same n v ≡ r → (each_brief ns ≡ true → place_in ns v ≡ place_in ns x) → place_in (n ∷ ns) v ≡ place_in (n ∷ ns) x
      go false r q s ih = true_is_false (sym (rw (q, each_brief) at p))
      go true true q s ih = let t : same n x ≡ true = sym (same_plain n (brief_plain n q)) ∙ s in rw (s, t, place_in)
      go true false q s ih = let t : same n x ≡ false = sym (same_plain n (brief_plain n q)) ∙ s in rw (s, t, place_in) (ap suc (ih (rw (q, each_brief) at p)))

  number_plain : (ns : List (List ℕ)) → each_brief ns ≡ true → number_in ns v ≡ number_in ns x
  unfolding number_in
  number_plain ns p = ap (λ (i : ℕ). elim (ltb i (length ns)) as (λ b. ℕ) [ true ↦ suc i | false ↦ 0 ]) (place_plain ns p)

  -- The number of what is written is the number of what is read.
  pub tag_plain : tag_of v ≡ tag_of x
  unfolding tag_of
  tag_plain = number_plain element_names elements_brief

  pub key_plain : key_of v ≡ key_of x
  unfolding key_of
  key_plain = number_plain key_names keys_brief

-- ---- what has a number need not be measured

as_written : (w : List ℕ) → is_brief w ≡ true → AsWritten 64 w
unfolding is_brief fits measured counted
as_written w e =
    let n : 0 + length w ≡ length w = omega arith in
    let z : measured w ≡ record { ok = true; len = length w } = ap (counted 0) (legible_plain w (brief_plain w e)) ∙ ap (λ (k : ℕ). record { ok = true; len = k }) n in
    record {
      within = ap (fits 1 64) z ∙ ap (λ (p : Bool). p && leb 1 (length w) && leb (length w) 64) (sym (brief_plain w e)) ∙ e;
      long = ap (λ (s : Scan). s.len) z;
    }

module _ (w : List ℕ) where
  place_brief : (ns : List (List ℕ)) → each_brief ns ≡ true → place_in ns w < length ns → is_brief w ≡ true
  unfolding place_in each_brief
  place_brief [] p k = absurd (omega (arith, k))
  place_brief (n ∷ ns) p k = go (is_brief n) (same n w) refl refl (place_brief ns)
    where
      go : (q r : Bool) → is_brief n ≡ q → same n w ≡ r → (each_brief ns ≡ true → place_in ns w < length ns → is_brief w ≡ true) → is_brief w ≡ true
      go false r q s ih = true_is_false (sym (rw (q, each_brief) at p))
      go true true q s ih = subst (λ (x : List ℕ). is_brief x ≡ true) (same_eq n w s) q
      go true false q s ih = let j : place_in (n ∷ ns) w ≡ suc (place_in ns w) = rw (s, place_in) in ih (rw (q, each_brief) at p) (omega (arith, j, k))

  number_known : (ns : List (List ℕ)) → each_brief ns ≡ true → (c : ℕ) → c ≡ number_in ns w → (c ≡ 0 → ⊥) → AsWritten 64 w
  unfolding number_in
  number_known ns p c e f = go (ltb (place_in ns w) (length ns)) refl
    where
      go : (q : Bool) → ltb (place_in ns w) (length ns) ≡ q → AsWritten 64 w
      go true q = as_written w (place_brief ns p (ltb-true (place_in ns w) (length ns) q))
      go false q = absurd (f (e ∙ rw (q, number_in)))

  pub tag_known : (c : ℕ) → c ≡ tag_of w → (c ≡ 0 → ⊥) → AsWritten 64 w
  unfolding tag_of
  tag_known = number_known element_names elements_brief

  pub key_known : (c : ℕ) → c ≡ key_of w → (c ≡ 0 → ⊥) → AsWritten 64 w
  unfolding key_of
  key_known = number_known key_names keys_brief
