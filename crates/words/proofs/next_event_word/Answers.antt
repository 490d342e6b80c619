use Rattle.definition.specs.Text.{is_space}
use Rattle.words.proofs.next_event_word.Goals as goal

pub returns : goal.returns
returns c = c.next_word.ensures is_space (λ b r e. e)
