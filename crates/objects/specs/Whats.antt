-- What a task is granted that asked a limiter or channel.
use Rattle.input_lines.specs.Lines.{Range}

-- a token, that its part was sent, a part, or an exception
pub data What : Type 0 where
  a_token : What
  was_sent : What
  a_part : (part : Range) → What
  closed_resource : What
  end_of_channel : What
