-- What a handler leaves of an exception.
use Rattle.std.specs.Prelude.{Option, Some, None}
use Rattle.std.specs.Option.{option_map}
use Rattle.std.specs.Global.{Box}
use Rattle.exceptions.specs.Exceptions.{Exc}
use Rattle.exceptions.specs.Held.{exc_of}
use Rattle.exceptions.specs.declared.exc.Exc.{Exc as HeldExc}
use Rattle.task_machine.specs.Frames.{unboxed_exc}

abbrev pub rest_of : Option (Box HeldExc) → Option Exc
rest_of rest = option_map exc_of (unboxed_exc rest)

-- the leaves that do not match, if some leaf matches
abbrev pub rest_if : (matched rest : Option Exc) → Option (Option Exc)
rest_if None rest = None
rest_if (Some matched) rest = Some rest
