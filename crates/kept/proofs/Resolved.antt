-- State names: resolved ones lead to their rows, and stay distinct.
use Prim.Native.Nat.{ℕ, zero, suc, ◌+◌, ◌≤◌, ◌<◌}
use mathlib.Core.Path.{◌≡◌, refl, sym, ap, ◌∙◌}
use mathlib.Core.Bool.{Bool, true, false, ◌&&◌, not}
use mathlib.Core.List.{List, [], ◌∷◌, ◌++◌, append_assoc, append-nil}
use lib.ListN.{length, length-append}
use lib.Dec.{eqb, ltb, nltb→le}
use native.Mathlib.Omega.{arith}
use Rattle.definition.specs.Text.{same, Piece}
use Rattle.definition.specs.Rows.{Cell, text_from, text_at}
use Rattle.definition.specs.Look.{find_name, piece_cell, enter, Resolved, resolve}
use Rattle.definition.specs.Rules.{is_inside, names_lead}
use Rattle.definition.proofs.Places.{bytes_at-append, Located}
use Rattle.definition.proofs.Finds.{find_hit, find_miss, find_le, find_more, find_new, cell_word}
use Rattle.kept.proofs.Base.{T_of, le_of, leb_of, eq_of, eqb_of, and_left, and_right, and_both, test, All, All-map, All-append}
use Rattle.kept.proofs.RowCells.{CellIn}
use Rattle.kept.proofs.Grow.{inside_grow}

-- ---- names that lead to their places

unfoldable pub Leads : List ℕ → List Cell → ℕ → List Cell → Type 0
Leads t all i [] = Unit {0}
Leads t all i (c ∷ cs) = (find_name t all (text_at t c) ≡ i) × Leads t all (suc i) cs

lead_cons : (t : List ℕ) (all : List Cell) (i : ℕ) (c : Cell) (cs : List Cell) → names_lead t all i (c ∷ cs) ≡ (eqb (find_name t all (text_at t c)) i && names_lead t all (suc i) cs)
unfolding names_lead
lead_cons t all i c cs = go (eqb (find_name t all (text_at t c)) i) refl
  where
    go : (b : Bool) → eqb (find_name t all (text_at t c)) i ≡ b → names_lead t all i (c ∷ cs) ≡ (b && names_lead t all (suc i) cs)
    go true e = rw (e, names_lead)
    go false e = rw (e, names_lead)

pub leads_from : (t : List ℕ) (all : List Cell) (i : ℕ) (cs : List Cell) → names_lead t all i cs ≡ true → Leads t all i cs
unfolding Leads
leads_from t all i [] e = tt
leads_from t all i (c ∷ cs) e =
    let p = eqb (find_name t all (text_at t c)) i in
    let f : (p && names_lead t all (suc i) cs) ≡ true = sym (lead_cons t all i c cs) ∙ e in
    (eq_of (find_name t all (text_at t c)) i (and_left p (names_lead t all (suc i) cs) f), leads_from t all (suc i) cs (and_right p (names_lead t all (suc i) cs) f))

pub leads_to : (t : List ℕ) (all : List Cell) (i : ℕ) (cs : List Cell) → Leads t all i cs → names_lead t all i cs ≡ true
unfolding Leads names_lead
leads_to t all i [] h = refl
leads_to t all i (c ∷ cs) h =
    lead_cons t all i c cs ∙ and_both (eqb (find_name t all (text_at t c)) i) (names_lead t all (suc i) cs) (eqb_of (find_name t all (text_at t c)) i h.0) (leads_to t all (suc i) cs h.1)

leads_more : (t : List ℕ) (all ds : List Cell) (i : ℕ) (cs : List Cell) → i + length cs ≤ length all → Leads t all i cs → Leads t (all ++ ds) i cs
unfolding Leads
leads_more t all ds i [] k h = tt
leads_more t all ds i (c ∷ cs) k h =
    (find_more t all ds (text_at t c) (omega (arith, h.0, k)) ∙ h.0, leads_more t all ds (suc i) cs (omega arith) h.1)

leads_append : (t : List ℕ) (all : List Cell) (i : ℕ) (cs : List Cell) (d : Cell) → Leads t all i cs → find_name t all (text_at t d) ≡ i + length cs → Leads t all i (cs ++ d ∷ [])
unfolding Leads
leads_append t all i [] d h e = (omega (arith, e), tt)
leads_append t all i (c ∷ cs) d h e = (h.0, leads_append t all (suc i) cs d h.1 (omega (arith, e)))

-- ---- resolving

-- What is known of the names at any time.
pub record Known (t : List ℕ) (cs : List Cell) : Type 0 where
  pub inside : All (CellIn (length t)) cs
  pub leads : Leads t cs 0 cs

cell_inside : (t : List ℕ) (p : Piece) → Located t p → CellIn (length t) (piece_cell p)
unfolding piece_cell is_inside
cell_inside t p h = leb_of (p.off + length p.word) (length t) h.fits

-- One name entered.
pub record Entered (t : List ℕ) (cs : List Cell) (k : ℕ) (ds : List Cell) : Type 0 where
  pub known : Known t ds
  pub more : List Cell
  pub all : ds ≡ cs ++ more
  pub there : k < length ds

entered_one : (t : List ℕ) (cs : List Cell) (p : Piece) → Known t cs → Located t p → Entered t cs (find_name t cs p.word) (enter cs (find_name t cs p.word) (piece_cell p))
unfolding enter
entered_one t cs p K h = go (ltb (find_name t cs p.word) (length cs)) refl
  where
    w : List ℕ
    w = p.word

    d : Cell
    d = piece_cell p

    go : (b : Bool) → ltb (find_name t cs w) (length cs) ≡ b → Entered t cs (find_name t cs w) (enter cs (find_name t cs w) d)
    go true e = rw (e, enter) (record { known = K; more = []; all = sym (append-nil cs); there = le_of (suc (find_name t cs w)) (length cs) e })
    go false e =
        let k : length cs ≤ find_name t cs w = nltb→le (find_name t cs w) (length cs) (T_of (not (ltb (find_name t cs w) (length cs))) (ap not e)) in
        let m : find_name t cs w ≤ length cs = find_le t cs w in
        let x : text_at t d ≡ w = cell_word t p h in
        let y : find_name t (cs ++ d ∷ []) (text_at t d) ≡ 0 + length cs = ap (find_name t (cs ++ d ∷ [])) x ∙ find_new t cs d w k x ∙ omega arith in
        rw (e, enter)
        (record {
          known =
              record {
                inside = All-append (CellIn (length t)) cs (d ∷ []) K.inside (cell_inside t p h, tt);
                leads = leads_append t (cs ++ d ∷ []) 0 cs d (leads_more t cs (d ∷ []) 0 cs (omega arith) K.leads) y;
              };
          more = d ∷ [];
          all = refl;
          there = omega (arith, m, length-append cs (d ∷ []));
        })

abbrev pub InRange : ℕ → ℕ → Type 0
InRange m v = (1 ≤ v) × (v ≤ m)

pub record AllResolved (t : List ℕ) (cs : List Cell) (r : Resolved) : Type 0 where
  pub known : Known t r.known
  pub more : List Cell
  pub all : r.known ≡ cs ++ more
  pub refs : All (InRange (length r.known)) r.refs

pub all_resolved : (t : List ℕ) (cs : List Cell) (ps : List Piece) → Known t cs → All (Located t) ps → AllResolved t cs (resolve t cs ps)
unfolding resolve
all_resolved t cs [] K a = record { known = K; more = []; all = sym (append-nil cs); refs = tt }
all_resolved t cs (p ∷ ps) K a =
    let k : ℕ = find_name t cs p.word in
    let ds : List Cell = enter cs k (piece_cell p) in
    let E : Entered t cs k ds = entered_one t cs p K a.0 in
    let R : AllResolved t ds (resolve t ds ps) = all_resolved t ds ps E.known a.1 in
    record {
      known = R.known;
      more = E.more ++ R.more;
      all = R.all ∙ ap (λ (x : List Cell). x ++ R.more) E.all ∙ append_assoc cs E.more R.more;
      refs = ((omega arith, omega (arith, E.there, ap length R.all, length-append ds R.more)), R.refs);
    }

-- ---- the text grows

text_grow : (t x : List ℕ) (c : Cell) → CellIn (length t) c → text_at (t ++ x) c ≡ text_at t c
unfolding text_at
text_grow t x c h = at_cell c.at c.len h
  where
    at_cell : (a k : ℕ) → is_inside (length t) a k ≡ true → text_from (t ++ x) a k ≡ text_from t a k
    at_cell zero k e = unfold text_from in refl
    at_cell (suc i) k e = unfold text_from is_inside in bytes_at-append t x (record { off = i; len = k }) (le_of (i + k) (length t) e)

find_grow : (t x : List ℕ) (cs : List Cell) (w : List ℕ) → All (CellIn (length t)) cs → find_name (t ++ x) cs w ≡ find_name t cs w
unfolding find_name
find_grow t x [] w a = refl
find_grow t x (c ∷ cs) w a =
    let e : text_at (t ++ x) c ≡ text_at t c = text_grow t x c a.0 in
    test (same (text_at t c) w) (λ f. find_hit (t ++ x) c cs w (ap (λ (y : List ℕ). same y w) e ∙ f) ∙ sym (find_hit t c cs w f)) (λ f.
    find_miss (t ++ x) c cs w (ap (λ (y : List ℕ). same y w) e ∙ f) ∙ ap suc (find_grow t x cs w a.1) ∙ sym (find_miss t c cs w f))

leads_grow : (t x : List ℕ) (all : List Cell) (i : ℕ) (cs : List Cell) → All (CellIn (length t)) all → All (CellIn (length t)) cs → Leads t all i cs → Leads (t ++ x) all i cs
unfolding Leads
leads_grow t x all i [] a b h = tt
leads_grow t x all i (c ∷ cs) a b h =
    (ap (find_name (t ++ x) all) (text_grow t x c b.0) ∙ find_grow t x all (text_at t c) a ∙ h.0, leads_grow t x all (suc i) cs a b.1 h.1)

pub known_grow : (t x : List ℕ) (cs : List Cell) → Known t cs → Known (t ++ x) cs
known_grow t x cs K =
    record {
      inside = All-map (CellIn (length t)) (CellIn (length (t ++ x))) (λ c h. inside_grow (length t) (length (t ++ x)) c.at c.len (omega (arith, length-append t x)) h) cs K.inside;
      leads = leads_grow t x cs 0 cs K.inside K.inside K.leads;
    }
