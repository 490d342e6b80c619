-- Whom demand 3 speaks of: no call is shut out of it, and a renaming need not be its own inverse.
use Rattle.std.specs.Prelude.{ℕ, ◌≡◌, List}
use Rattle.definition.specs.Reader.{Call}
use Rattle.renaming.specs.Renaming.{Renaming, CallsRel}

-- To leave every name as it is, is to rename.
abbrev pub IdentityRenames : Type 0
IdentityRenames = Renaming (λ (w : List ℕ). w)

-- Then every list of calls, in form or not, is its own partner.
abbrev pub OwnPartner : Type 0
OwnPartner = (ρ : List ℕ → List ℕ) → ((w : List ℕ) → ρ w ≡ w) → (cs : List Call) → CallsRel ρ cs cs

abbrev pub RenamingsCompose : Type 0
RenamingsCompose = (ρ σ : List ℕ → List ℕ) → Renaming ρ → Renaming σ → Renaming (λ (w : List ℕ). ρ (σ w))
