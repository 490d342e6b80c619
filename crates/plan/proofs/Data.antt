-- initial, donedata, data, invoke; param and content.
use Prim.Native.Nat.{ℕ, suc}
use mathlib.Core.Path.{refl}
use mathlib.Core.Bool.{Bool, true, false, ◌||◌}
use mathlib.Core.List.{[], ◌∷◌, reverse-reverse}
use lib.ListN.{length}
use lib.Dec.{eqb}
use lib.Seq.{take-length}
use Rattle.std.specs.Prelude.{Some, None}
use Rattle.definition.specs.Elements.{tag, key}
use Rattle.definition.specs.Event.{kind}
use Rattle.definition.specs.Look.{Look}
use Rattle.definition.specs.Rows.{Table, table, datum, entry, entry_kind, state, num, row_of, Numbers, table_of, current_state, parent_tag}
use Rattle.definition.specs.Change.{◌≔◌, shape, adding, altering, Outcome, done, refuse, nothing, has}
use Rattle.definition.specs.States.{start_initial, start_donedata, start_data}
use Rattle.definition.specs.Actions.{start_invoke, by_parent, of_last_send, of_last_invoke, of_donedata, start_param, start_content, last_entry, last_invoke}
use Rattle.definition.specs.Reader.{on_done, started}
use Rattle.plan.specs.declared.Shape.{Shape}
use Rattle.plan.specs.declared.Shape.TheVariants as S
use Rattle.plan.specs.Ids.{state_id}
use Rattle.plan.specs.Plan.{on_datum, Planned, planned, refused}
use Rattle.plan.specs.After.{verdict_of}
use Rattle.plan.specs.declared.Seen.{Seen}
use Rattle.plan.specs.Seen.{seen}
use Rattle.plan.specs.Heard.{heard}
use Rattle.plan.specs.Plans.{begun, initial_p, donedata_p, data_p, invoke_p, by_parent_p, of_last_send_p, of_last_invoke_p, of_donedata_p, param_p, content_p, only_nest_p}
use Rattle.plan.proofs.Base.{Tables, full, looked}
use Rattle.plan.proofs.Loops.{also_all, words_all, words_rows}
use Rattle.plan.proofs.Frame.{Next, to_open, Meets, by_unless, by_either, by_initial}

-- ---- tests of param and content

module _ (m : ℕ) (l : Look) (n : Numbers) (k : Next) where
  by_parent_lem : (p : ℕ) (o₁ o₂ o₃ : Outcome) (P₁ P₂ P₃ : Planned) → Meets m l n k o₁ P₁ → Meets m l n k o₂ P₂ → Meets m l n k o₃ P₃ → Meets m l n k (by_parent p o₁ o₂ o₃) (by_parent_p p P₁ P₂ P₃)
  unfolding by_parent by_parent_p
  by_parent_lem p o₁ o₂ o₃ P₁ P₂ P₃ h₁ h₂ h₃ = by_either m l n k (eqb p tag.send) _ _ _ _ (λ e. h₁) (λ e. by_either m l n k (eqb p tag.invoke) _ _ _ _ (λ e. h₂) (λ e. h₃))

  by_send : (o : Outcome) (P : Planned) → Meets m l n k o P → Meets m l n k (of_last_send n o) (of_last_send_p (seen n l) P)
  unfolding seen of_last_send of_last_send_p on_done verdict_of
  by_send o P h = by_either m l n k (eqb (num (row_of (table_of n table.entries) (last_entry n n.current)) entry.kind) entry_kind.send) o (refuse 2) P (refused 2) (λ e. h) (λ e. refl)

  by_invoke : (o : Outcome) (P : Planned) → Meets m l n k o P → Meets m l n k (of_last_invoke n o) (of_last_invoke_p (seen n l) P)
  unfolding of_last_invoke of_last_invoke_p seen
  by_invoke o P h = by_unless m l n k (current_state n) _ _ (λ z. by_unless m l n k (last_invoke n (current_state n)) o P (λ z. h))

  by_donedata : (o : Outcome) (P : Planned) → Meets m l n k o P → Meets m l n k (of_donedata n o) (of_donedata_p (seen n l) P)
  unfolding of_donedata of_donedata_p seen
  by_donedata o P h = by_unless m l n k (current_state n) _ _ (λ z. by_unless m l n k (num (row_of (table_of n table.states) (current_state n)) state.donedata) o P (λ z. h))

module _ (T : Tables) (c i d a e k : ℕ) (l₀ : Look) where
  abbrev n : Numbers
  n = full T c i d a e

  abbrev rs : Table
  rs = T.open_regions

  abbrev el : ℕ → Look
  el g = looked k g l₀

  abbrev see : ℕ → Seen
  see g = seen n (el g)

  pub start_initial_lem : Meets 0 (el 7) n (to_open (el 7) n) (start_initial n (el 7)) (initial_p (see 7))
  unfolding seen heard start_initial started verdict_of initial_p
  start_initial_lem = by_unless 0 (el 7) n (to_open (el 7) n) (current_state n) _ _ (λ h. by_initial 0 (el 7) n (to_open (el 7) n) (done (nothing n)) (only_nest_p (see 7)) (rw (reverse-reverse rs, take-length rs)))

  pub start_donedata_lem : Meets 0 (el 10) n (to_open (el 10) n) (start_donedata n (el 10)) (donedata_p (see 10))
  unfolding seen heard start_donedata started verdict_of donedata_p
  start_donedata_lem = by_unless 0 (el 10) n (to_open (el 10) n) (current_state n) _ _ (λ h. rw (reverse-reverse rs, take-length rs))

  -- Both shapes of a value, and their numbers.
  abbrev as_shape : Bool → Shape
  as_shape b = elim b [ true ↦ S.First | false ↦ S.Second ]

  abbrev as_number : Bool → ℕ
  as_number b = elim b [ true ↦ 0 | false ↦ 1 ]

  datum_added : (b : Bool) → Meets 0 (el 9) n (to_open (el 9) n) (done (adding (shape (as_number b)) (datum.state ≔ current_state n ∷ []) (nothing n))) (planned (on_datum (record { added = Some (record { state = state_id (current_state n); shape = as_shape b }); altered = None }) (begun (see 9))))
  unfolding seen heard started verdict_of begun
  datum_added true = rw (reverse-reverse rs, take-length rs)
  datum_added false = rw (reverse-reverse rs, take-length rs)

  datum_altered : (b : Bool) → Meets 0 (el 9) n (to_open (el 9) n) (done (altering (shape (as_number b)) l₀.found [] (nothing n))) (planned (on_datum (record { added = None; altered = Some (record { at = l₀.found; shape = as_shape b }) }) (begun (see 9))))
  unfolding seen heard started verdict_of begun
  datum_altered true = rw (reverse-reverse rs, take-length rs)
  datum_altered false = rw (reverse-reverse rs, take-length rs)

  pub start_data_lem : Meets 0 (el 9) n (to_open (el 9) n) (start_data n (el 9)) (data_p (see 9) (heard (el 9)))
  unfolding seen heard start_data started verdict_of data_p
  start_data_lem =
      by_unless 0 (el 9) n (to_open (el 9) n) (current_state n) _ _ (λ h.
      by_either 0 (el 9) n (to_open (el 9) n) (eqb l₀.found (suc (length T.datums))) _ _ _ _ (λ z. datum_added (has (el 9) key.expr)) (λ z. datum_altered (has (el 9) key.expr)))

  pub start_invoke_lem : Meets 0 (el 8) n (to_open (el 8) n) (start_invoke n (el 8)) (invoke_p (see 8) (heard (el 8)))
  unfolding seen heard start_invoke started verdict_of invoke_p also_all
  start_invoke_lem = by_unless 0 (el 8) n (to_open (el 8) n) (current_state n) _ _ (λ z. rw (words_all, words_rows (el 8) key.namelist refl, reverse-reverse rs, take-length rs))

  pub start_param_lem : Meets 0 (el 14) n (to_open (el 14) n) (start_param n (el 14)) (param_p (see 14))
  unfolding seen heard start_param started verdict_of param_p
  start_param_lem =
      by_parent_lem 0 (el 14) n (to_open (el 14) n) (parent_tag n) _ _ _ _ _ _
      (by_unless 0 (el 14) n (to_open (el 14) n) c _ _ (λ h. by_send 0 (el 14) n (to_open (el 14) n) _ _ (rw (reverse-reverse rs, take-length rs))))
      (by_invoke 0 (el 14) n (to_open (el 14) n) _ _ (rw (reverse-reverse rs, take-length rs))) (by_donedata 0 (el 14) n (to_open (el 14) n) _ _ (rw (reverse-reverse rs, take-length rs)))

  pub start_content_lem : Meets 0 (el 15) n (to_open (el 15) n) (start_content n (el 15)) (content_p (see 15) (heard (el 15)))
  unfolding seen heard start_content started verdict_of content_p
  start_content_lem =
      by_parent_lem 0 (el 15) n (to_open (el 15) n) (parent_tag n) _ _ _ _ _ _
      (by_either 0 (el 15) n (to_open (el 15) n) (eqb c 0) _ _ _ _ (λ e. rw (reverse-reverse rs, take-length rs))
      (λ e. by_send 0 (el 15) n (to_open (el 15) n) _ _
      (by_either 0 (el 15) n (to_open (el 15) n) (has (el 15) key.expr || eqb k kind.whole) _ _ _ _ (λ e. rw (reverse-reverse rs, take-length rs)) (λ e. rw (reverse-reverse rs, take-length rs)))))
      (by_invoke 0 (el 15) n (to_open (el 15) n) _ _ (rw (reverse-reverse rs, take-length rs))) (by_donedata 0 (el 15) n (to_open (el 15) n) _ _ (rw (reverse-reverse rs, take-length rs)))
