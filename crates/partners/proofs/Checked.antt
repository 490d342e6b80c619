-- A test whether two lists of calls are partners, so that a literal pair is one by computing.
use Prim.Native.Nat.{ℕ}
use mathlib.Core.Path.{◌≡◌, refl, sym, subst₂}
use mathlib.Core.Bool.{Bool, true, false, ◌&&◌, not}
use mathlib.Core.Option.{Option, none, some}
use mathlib.Core.List.{List, [], ◌∷◌, map}
use lib.ListN.{length}
use lib.Dec.{eqb}
use borrow.Author.Tests.{eqb-true}
use Rattle.definition.specs.Text.{str, same}
use Rattle.definition.specs.Elements.{Role, name, names, masked, plain, role_of}
use Rattle.definition.specs.Event.{line_of, after, tail_from, is_nil, legible}
use Rattle.definition.specs.Reader.{Call, event, reading}
use Rattle.renaming.specs.Renaming.{rename_words, Moved, ValueRel, LinesRel, CallRel, CallsRel, all_lines, key_written, element_in, key_before, is_free}
use Rattle.definition.proofs.Base.{and_left, and_right, same_eq, true_is_false}
use Rattle.definition.proofs.Events.{after_split}
use Rattle.partners.proofs.Lines.{line_free}

module _ (ρ : List ℕ → List ℕ) where
  unfoldable moved_so : Role → List ℕ → List ℕ → Bool
  unfolding same rename_words
  moved_so name v w = same w (ρ v)
  moved_so names v w = same w (rename_words ρ [] v)
  moved_so masked v w = eqb (length w) (length v)
  moved_so plain v w = same w v

  unfoldable values_fit : Role → List ℕ → List ℕ → Bool
  unfolding same legible moved_so
  values_fit q v w = elim (legible v) [ none ↦ same w v | some x ↦ elim (legible w) [ none ↦ false | some y ↦ moved_so q x y ] ]

  unfoldable lines_fit : ℕ → Option (List ℕ) → List (List ℕ) → List (List ℕ) → Bool
  unfolding same after str values_fit role_of key_written key_before line_of
  lines_fit g p [] [] = true
  lines_fit g p [] (m ∷ ms) = false
  lines_fit g p (l ∷ ls) [] = false
  lines_fit g none (l ∷ ls) (m ∷ ms) = same l m && lines_fit g (key_before (line_of l)) ls ms
  lines_fit g (some k) (l ∷ ls) (m ∷ ms) =
      elim (after (str "value=") l) [
        | none ↦ same l m && lines_fit g (key_before (line_of l)) ls ms
        | some v ↦ elim (after (str "value=") m) [ none ↦ false | some w ↦ values_fit (role_of g (key_written k)) v w && lines_fit g none ls ms ]
      ]

  unfoldable call_fits : Call → Call → Bool
  unfolding lines_fit element_in line_of all_lines is_nil tail_from
  call_fits (event c) (event d) =
      lines_fit (element_in (map line_of (all_lines c))) none (all_lines c) (all_lines d)
      && elim (is_nil (tail_from [] c)) [ true ↦ is_nil (tail_from [] d) | false ↦ not (is_nil (tail_from [] d)) ]
  call_fits (event c) (reading t i) = false
  call_fits (reading t i) (event d) = false
  call_fits (reading t i) (reading u j) = eqb t u && eqb i j

  unfoldable pub calls_fit : List Call → List Call → Bool
  unfolding call_fits
  calls_fit [] [] = true
  calls_fit [] (d ∷ ds) = false
  calls_fit (c ∷ cs) [] = false
  calls_fit (c ∷ cs) (d ∷ ds) = call_fits c d && calls_fit cs ds

  -- ---- what is tested holds

  moved_so_lem : (q : Role) (v w : List ℕ) → moved_so q v w ≡ true → Moved ρ q v w
  unfolding moved_so
  moved_so_lem name v w e = same_eq w (ρ v) e
  moved_so_lem names v w e = same_eq w (rename_words ρ [] v) e
  moved_so_lem masked v w e = eqb-true (length w) (length v) e
  moved_so_lem plain v w e = same_eq w v e

  values_fit_lem : (q : Role) (v w : List ℕ) → values_fit q v w ≡ true → ValueRel ρ q v w
  unfolding values_fit
  values_fit_lem q v w e = go (legible v) (legible w) refl refl
    where
      go : (o p : Option (List ℕ)) → legible v ≡ o → legible w ≡ p → ValueRel ρ q v w
      go none p f g = ValueRel.illegible f (same_eq w v (rw (f, values_fit) at e))
      go (some x) none f g = true_is_false (sym (rw (f, values_fit, g, values_fit) at e))
      go (some x) (some y) f g = ValueRel.legibly x y f g (moved_so_lem q x y (rw (f, values_fit, g, values_fit) at e))

  kept_line : (g : ℕ) (p : Option (List ℕ)) (l m : List ℕ) (ls ms : List (List ℕ)) → is_free p (line_of l) ≡ true → same l m ≡ true
      → LinesRel ρ g (key_before (line_of l)) ls ms → LinesRel ρ g p (l ∷ ls) (m ∷ ms)
  kept_line g p l m ls ms f e k = subst₂ (λ (x y : List ℕ). LinesRel ρ g p (x ∷ ls) (y ∷ ms)) refl (same_eq l m e) (LinesRel.kept l f k)

  lines_fit_lem : (g : ℕ) (p : Option (List ℕ)) (ls ms : List (List ℕ)) → lines_fit g p ls ms ≡ true → LinesRel ρ g p ls ms
  unfolding lines_fit is_free
  lines_fit_lem g p [] [] e = LinesRel.done
  lines_fit_lem g p [] (m ∷ ms) e = true_is_false (sym e)
  lines_fit_lem g p (l ∷ ls) [] e = true_is_false (sym e)
  lines_fit_lem g none (l ∷ ls) (m ∷ ms) e =
      let s = same l m in
      let r = lines_fit g (key_before (line_of l)) ls ms in
      kept_line g none l m ls ms refl (and_left s r e) (lines_fit_lem g (key_before (line_of l)) ls ms (and_right s r e))
  lines_fit_lem g (some k) (l ∷ ls) (m ∷ ms) e =
      go (after (str "value=") l) (after (str "value=") m) refl refl (lines_fit_lem g none ls ms) (lines_fit_lem g (key_before (line_of l)) ls ms)
    where
      go : (o p : Option (List ℕ)) → after (str "value=") l ≡ o → after (str "value=") m ≡ p → (lines_fit g none ls ms ≡ true → LinesRel ρ g none ls ms)
          → (lines_fit g (key_before (line_of l)) ls ms ≡ true → LinesRel ρ g (key_before (line_of l)) ls ms) → LinesRel ρ g (some k) (l ∷ ls) (m ∷ ms)
      go none p f h i j =
          let z : (same l m && lines_fit g (key_before (line_of l)) ls ms) ≡ true = rw (f, lines_fit) at e in
          kept_line g (some k) l m ls ms (line_free k l f) (and_left (same l m) (lines_fit g (key_before (line_of l)) ls ms) z)
          (j (and_right (same l m) (lines_fit g (key_before (line_of l)) ls ms) z))
      go (some v) none f h i j = true_is_false (sym (rw (f, lines_fit, h, lines_fit) at e))
      go (some v) (some w) f h i j =
          let s = values_fit (role_of g (key_written k)) v w in
          let z : (s && lines_fit g none ls ms) ≡ true = rw (f, lines_fit, h, lines_fit) at e in
          subst₂ (λ (x y : List ℕ). LinesRel ρ g (some k) (x ∷ ls) (y ∷ ms)) (sym (after_split (str "value=") l v f)) (sym (after_split (str "value=") m w h))
          (LinesRel.moved v w (values_fit_lem (role_of g (key_written k)) v w (and_left s (lines_fit g none ls ms) z)) (i (and_right s (lines_fit g none ls ms) z)))

  tails : (a b : Bool) → elim a as (λ (c : Bool). Bool) [ true ↦ b | false ↦ not b ] ≡ true → b ≡ a
  tails true b e = e
  tails false true e = sym e
  tails false false e = refl

  call_fits_lem : (c d : Call) → call_fits c d ≡ true → CallRel ρ c d
  unfolding call_fits
  call_fits_lem (event c) (event d) e =
      let s = lines_fit (element_in (map line_of (all_lines c))) none (all_lines c) (all_lines d) in
      CallRel.events c d (lines_fit_lem (element_in (map line_of (all_lines c))) none (all_lines c) (all_lines d) (and_left s _ e))
      (tails (is_nil (tail_from [] c)) (is_nil (tail_from [] d)) (and_right s _ e))
  call_fits_lem (event c) (reading t i) e = true_is_false (sym e)
  call_fits_lem (reading t i) (event d) e = true_is_false (sym e)
  call_fits_lem (reading t i) (reading w j) e =
      subst₂ (λ (x y : ℕ). CallRel ρ (reading t i) (reading x y)) (eqb-true t w (and_left (eqb t w) (eqb i j) e)) (eqb-true i j (and_right (eqb t w) (eqb i j) e))
      (CallRel.readings t i)

  pub calls_fit_lem : (cs ds : List Call) → calls_fit cs ds ≡ true → CallsRel ρ cs ds
  unfolding calls_fit
  calls_fit_lem [] [] e = CallsRel.stop
  calls_fit_lem [] (d ∷ ds) e = true_is_false (sym e)
  calls_fit_lem (c ∷ cs) [] e = true_is_false (sym e)
  calls_fit_lem (c ∷ cs) (d ∷ ds) e =
      CallsRel.next (call_fits_lem c d (and_left (call_fits c d) (calls_fit cs ds) e)) (calls_fit_lem cs ds (and_right (call_fits c d) (calls_fit cs ds) e))
