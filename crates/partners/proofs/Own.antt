-- Every list of calls is its own partner, and renamings compose.
use Prim.Native.Nat.{ℕ}
use mathlib.Core.Path.{◌≡◌, refl, sym, ap, ap₂, ◌∙◌, subst}
use mathlib.Core.Bool.{Bool, true, false}
use mathlib.Core.Option.{Option, none, some}
use mathlib.Core.List.{List, [], ◌∷◌, ◌++◌, map, append-nil, append_assoc}
use Rattle.definition.specs.Text.{str, is_separator}
use Rattle.definition.specs.Elements.{Role, name, names, masked, plain, role_of}
use Rattle.definition.specs.Event.{line_of, after, legible}
use Rattle.definition.specs.Reader.{Call, event, reading}
use Rattle.definition.proofs.Events.{after_split}
use Rattle.renaming.specs.Renaming.{rename_words, Moved, ValueRel, LinesRel, CallRel, CallsRel, all_lines, key_written, element_in, key_before, is_free}
use Rattle.partners.specs.Statements.{IdentityRenames, OwnPartner, RenamingsCompose}
use Rattle.partners.proofs.Lines.{line_free}

pub identity_renames : IdentityRenames
identity_renames =
    record { allowed = λ a h. h; inj = λ a b h k e. e; len = λ a h. refl; word = λ a h w. w; other = λ a h n. refl; keeps = λ a h g. refl }

pub renamings_compose : RenamingsCompose
renamings_compose ρ σ R S =
    record {
      allowed = λ a h. R.allowed (σ a) (S.allowed a h);
      inj = λ a b h k e. S.inj a b h k (R.inj (σ a) (σ b) (S.allowed a h) (S.allowed b k) e);
      len = λ a h. R.len (σ a) (S.allowed a h) ∙ S.len a h;
      word = λ a h w. R.word (σ a) (S.allowed a h) (S.word a h w);
      other = λ a h n. ap ρ (S.other a h n) ∙ R.other a h n;
      keeps = λ a h g. ap ρ (S.keeps a h g) ∙ R.keeps a h g;
    }

module _ (ρ : List ℕ → List ℕ) (h : (w : List ℕ) → ρ w ≡ w) where
  -- ---- a value

  words_own : (w v : List ℕ) → rename_words ρ w v ≡ w ++ v
  unfolding rename_words
  words_own w [] = h w ∙ sym (append-nil w)
  words_own w (b ∷ v) = go (is_separator b) refl (words_own [] v) (words_own (w ++ b ∷ []) v)
    where
      go : (c : Bool) → is_separator b ≡ c → rename_words ρ [] v ≡ v → rename_words ρ (w ++ b ∷ []) v ≡ (w ++ b ∷ []) ++ v
          → rename_words ρ w (b ∷ v) ≡ w ++ b ∷ v
      go true q e f = rw (q, rename_words) (ap₂ (λ (x y : List ℕ). x ++ b ∷ y) (h w) e)
      go false q e f = rw (q, rename_words) (f ∙ append_assoc w (b ∷ []) v)

  moved_own : (q : Role) (x : List ℕ) → Moved ρ q x x
  moved_own name x = sym (h x)
  moved_own names x = sym (words_own [] x)
  moved_own masked x = refl
  moved_own plain x = refl

  value_own : (q : Role) (v : List ℕ) → ValueRel ρ q v v
  value_own q v = go (legible v) refl
    where
      go : (o : Option (List ℕ)) → legible v ≡ o → ValueRel ρ q v v
      go none e = ValueRel.illegible e refl
      go (some x) e = ValueRel.legibly x x e e (moved_own q x)

  -- ---- lines, calls

  lines_own : (g : ℕ) (p : Option (List ℕ)) (ls : List (List ℕ)) → LinesRel ρ g p ls ls
  unfolding is_free
  lines_own g p [] = LinesRel.done
  lines_own g none (l ∷ ls) = LinesRel.kept l refl (lines_own g (key_before (line_of l)) ls)
  lines_own g (some k) (l ∷ ls) = go (after (str "value=") l) refl (lines_own g none ls) (lines_own g (key_before (line_of l)) ls)
    where
      go : (o : Option (List ℕ)) → after (str "value=") l ≡ o → LinesRel ρ g none ls ls → LinesRel ρ g (key_before (line_of l)) ls ls
          → LinesRel ρ g (some k) (l ∷ ls) (l ∷ ls)
      go none e m n = LinesRel.kept l (line_free k l e) n
      go (some v) e m n =
          subst (λ (x : List ℕ). LinesRel ρ g (some k) (x ∷ ls) (x ∷ ls)) (sym (after_split (str "value=") l v e))
          (LinesRel.moved v v (value_own (role_of g (key_written k)) v) m)

  call_own : (c : Call) → CallRel ρ c c
  call_own (event raw) = CallRel.events raw raw (lines_own (element_in (map line_of (all_lines raw))) none (all_lines raw)) refl
  call_own (reading t i) = CallRel.readings t i

  calls_own : (cs : List Call) → CallsRel ρ cs cs
  calls_own [] = CallsRel.stop
  calls_own (c ∷ cs) = CallsRel.next (call_own c) (calls_own cs)

pub own_partner : OwnPartner
own_partner = calls_own
