-- THEOREM: a name that is printed reads back as itself, by the definition's own reading of an event's lines.
use mathlib.Core.Path.{◌≡◌, refl}
use mathlib.Core.Bool.{false}
use mathlib.Core.Option.{some}
use mathlib.Core.List.{List, [], ◌∷◌}
use Prim.Native.Nat.{ℕ}
use lib.Dec.{eqb}
use borrow.Author.Tests.{eqb-true, eqb-false}
use Rattle.words.proofs.Laws.{by}
use Rattle.definition.specs.Event.{unescape_from, prepend}
use Rattle.printing.specs.Lines.{escaped}
use Rattle.printing.proofs.Laws.{escape_line, escape_slash, escape_other}

pub reads_back : (w : List ℕ) → unescape_from false (escaped w) ≡ some w
unfolding escaped unescape_from prepend
reads_back [] = refl
reads_back (b ∷ w) =
    by (eqb b 10) (λ e. let n : b ≡ 10 = eqb-true _ _ e in rw (escape_line b n, reads_back w, n))
    (λ e.
    by (eqb b 92) (λ f. let n : b ≡ 92 = eqb-true _ _ f in rw (escape_slash b n, reads_back w, n))
    (λ f. rw (escape_other b (eqb-false _ _ e) (eqb-false _ _ f), f, unescape_from, reads_back w)))
