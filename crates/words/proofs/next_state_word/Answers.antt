use Rattle.definition.specs.Text.{is_separator}
use Rattle.words.proofs.next_state_word.Goals as goal

pub returns : goal.returns
returns c = c.next_word.ensures is_separator (λ b r e. e)
