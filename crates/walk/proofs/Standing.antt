-- The parts of an event's lines stand where the walk says.
use Prim.Native.Nat.{ℕ, suc, ◌+◌}
use mathlib.Core.Path.{◌≡◌, refl, sym, ap, ◌∙◌}
use mathlib.Core.Bool.{Bool, true, false}
use mathlib.Core.Option.{Option, none, some}
use mathlib.Core.List.{List, [], ◌∷◌, ◌++◌, map, append_assoc}
use lib.ListN.{length, take, drop, length-append, take-append-drop}
use lib.Seq.{take-append_seam, drop-append_seam, drop-drop}
use lib.Dec.{eqb}
use native.Mathlib.Omega.{arith}
use Rattle.definition.specs.Text.{str}
use Rattle.definition.specs.Event as E
use Rattle.definition.specs.Event.{Line, after, headed, line_of, lines_from}
use Rattle.definition.proofs.Events.{after_split}
use Rattle.lines.specs.Parts.{part}
use Rattle.walk.specs.Walk.{Placed, line, placed_lines}

-- What follows a decoded line's head stands in raw.
unfoldable pub Stands : List ℕ → ℕ → Line → Type 0
unfolding part
Stands raw at (E.event k) = Unit {0}
Stands raw at (E.name n) = part raw (at + 5) (length n) ≡ n
Stands raw at (E.key k) = part raw (at + 4) (length k) ≡ k
Stands raw at (E.value v) = part raw (at + 6) (length v) ≡ v
Stands raw at (E.text v) = part raw (at + 5) (length v) ≡ v
Stands raw at E.junk = Unit {0}

pub data AllStand (raw : List ℕ) : List Placed → Type 0 where
  nil : AllStand raw []
  cons : {at : ℕ} {l : Line} {ls : List Placed} → Stands raw at l → AllStand raw ls → AllStand raw (line at l ∷ ls)

-- ---- what follows a head

part_after : (raw l h v : List ℕ) (at : ℕ) → part raw at (length l) ≡ l → l ≡ h ++ v → part raw (at + length h) (length v) ≡ v
unfolding part
part_after raw l h v at e f =
    let x : drop at raw ≡ (h ++ v) ++ drop (length l) (drop at raw) = sym (take-append-drop (length l) (drop at raw)) ∙ ap (λ (q : List ℕ). q ++ drop (length l) (drop at raw)) (e ∙ f) in
    let y : drop (length h) (drop at raw) ≡ v ++ drop (length l) (drop at raw) = ap (drop (length h)) (x ∙ append_assoc h v (drop (length l) (drop at raw))) ∙ drop-append_seam h (v ++ drop (length l) (drop at raw)) in
    ap (take (length v)) (sym (drop-drop (length h) at raw) ∙ y) ∙ take-append_seam v (drop (length l) (drop at raw))

-- A line by its head stands, or another line that does.
headed_stands : (raw : List ℕ) (at : ℕ) (h : List ℕ) (make : List ℕ → Line) (other : Line) (l : List ℕ)
    → ((v : List ℕ) → l ≡ h ++ v → Stands raw at (make v)) → Stands raw at other → Stands raw at (headed h make other l)
unfolding headed
headed_stands raw at h make other l f g = go (after h l) refl
  where
    go : (o : Option (List ℕ)) → after h l ≡ o → Stands raw at (headed h make other l)
    go none q = rw (q, headed) g
    go (some v) q = rw (q, headed) (f v (after_split h l v q))

line_stands : (raw l : List ℕ) (at : ℕ) → part raw at (length l) ≡ l → Stands raw at (line_of l)
unfolding line_of Stands str
line_stands raw l at e =
    headed_stands raw at (str "value=") E.value _ l (λ v f. part_after raw l (str "value=") v at e f)
    (headed_stands raw at (str "key=") E.key _ l (λ v f. part_after raw l (str "key=") v at e f)
    (headed_stands raw at (str "event=") E.event _ l (λ v f. tt)
    (headed_stands raw at (str "name=") E.name _ l (λ v f. part_after raw l (str "name=") v at e f)
    (headed_stands raw at (str "text=") E.text E.junk l (λ v f. part_after raw l (str "text=") v at e f) tt))))

-- ---- the lines of raw

lines_stand : (t raw pre w : List ℕ) (at : ℕ) → raw ≡ pre ++ (w ++ t) → at ≡ length pre → AllStand raw (placed_lines at (lines_from w t))
unfolding lines_from placed_lines part
lines_stand [] raw pre w at e f = nil
lines_stand (b ∷ bs) raw pre w at e f = go (eqb b 10) refl (λ p v k. lines_stand bs raw p v k)
  where
    here : part raw at (length w) ≡ w
    here = rw (e, f) (ap (take (length w)) (drop-append_seam pre (w ++ b ∷ bs)) ∙ take-append_seam w (b ∷ bs))

    go : (p : Bool) → eqb b 10 ≡ p → ((q v : List ℕ) (k : ℕ) → raw ≡ q ++ (v ++ bs) → k ≡ length q → AllStand raw (placed_lines k (lines_from v bs)))
        → AllStand raw (placed_lines at (lines_from w (b ∷ bs)))
    go true q ih =
        rw (q, lines_from)
        (cons (line_stands raw w at here)
        (ih (pre ++ (w ++ b ∷ [])) [] (at + suc (length w))
        (e ∙ sym (append_assoc pre (w ++ b ∷ []) bs ∙ ap (λ (x : List ℕ). pre ++ x) (append_assoc w (b ∷ []) bs)))
        (omega (arith, f, length-append pre (w ++ b ∷ []), length-append w (b ∷ [])))))
    go false q ih = rw (q, lines_from) (ih pre (w ++ b ∷ []) at (e ∙ ap (λ (x : List ℕ). pre ++ x) (sym (append_assoc w (b ∷ []) bs))) f)

pub raw_stands : (raw : List ℕ) → AllStand raw (placed_lines 0 (lines_from [] raw))
raw_stands raw = lines_stand raw raw [] [] 0 refl refl

-- ---- the decoded lines alone

unfoldable pub decoded : Placed → Line
decoded (line at l) = l

pub decoded_lines : (at : ℕ) (ls : List (List ℕ)) → map decoded (placed_lines at ls) ≡ map line_of ls
unfolding placed_lines decoded
decoded_lines at [] = refl
decoded_lines at (l ∷ ls) = ap (λ (x : List Line). line_of l ∷ x) (decoded_lines (at + suc (length l)) ls)
