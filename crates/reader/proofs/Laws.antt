-- Whether the bytes are one event, once the questions 1 and 2 are yes.
use Prim.Native.Nat.{ℕ, ◌<◌}
use mathlib.Core.Path.{◌≡◌, refl, sym, ap, ◌∙◌}
use mathlib.Core.List.{List}
use lib.ListN.{length}
use Rattle.definition.specs.declared.Position.{Position}
use Rattle.definition.specs.Limits.{limits01}
use Rattle.definition.specs.Reader.{Lent, call, event}
use Rattle.lines.specs.Lines.{event_length}
use Rattle.event.specs.Described.{described}
use Rattle.event.specs.One.{one_event}
use Rattle.event.proofs.OneLaws.{is_one_lem, out_of_form}
use Rattle.questions.specs.Lent.{first_two}
use Rattle.conclude.specs.Fed.{given}
use Rattle.feed.proofs.Laws.{out_of}
use Rattle.streams.proofs.Laws.{call_answered}

module _ (x : Lent) (p : Position) (raw : List ℕ) (asked : first_two x p ≡ 0) {b : ℕ} (eb : b ≡ one_event raw) where
  -- Bytes that are not one event.
  pub not_one : (b ≡ 0 → ⊥) → given b p x ≡ call limits01 x p (event raw)
  not_one n =
      let m : one_event raw ≡ 0 → ⊥ = λ z. n (eb ∙ z) in
      let d : one_event raw ≡ (described raw).number = out_of_form raw m in
      ap (λ (z : ℕ). given z p x) (eb ∙ d) ∙ (out_of x p raw (described raw) refl (λ z. m (d ∙ z)) ∙ call_answered x p asked raw)

pub is_one : (raw : List ℕ) {b : ℕ} → b ≡ one_event raw → b ≡ 0 → (0 < length raw) × (event_length raw ≡ length raw)
is_one raw e z = is_one_lem raw (sym e ∙ z)
