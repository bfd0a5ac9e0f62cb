-- What a block is, and what remains when it is left, in the terms of the meaning.
use Rattle.std.specs.Prelude.{Bool, false}
use Rattle.std.specs.Option.{option_map}
use Rattle.exceptions.specs.Held.{exc_of}
use Rattle.job_meaning.specs.Walk as meaning
use Rattle.block_exits.specs.declared.kind.Kind.{Kind}
use Rattle.block_exits.specs.declared.kind.Kind.TheVariants.{Scope, Nursery}
use Rattle.block_exits.specs.declared.exits.Left.{Left}

abbrev pub kind_of : Kind → meaning.Kind
kind_of (Scope fail) = meaning.a_scope fail
kind_of Nursery = meaning.a_nursery

-- whether it is a `fail` scope
abbrev pub fails_of : meaning.Kind → Bool
fails_of (meaning.a_scope fail) = fail
fails_of meaning.a_nursery = false

-- what remains when a block is left
abbrev pub left_of : Left → meaning.Left
left_of l = record { caught = l.caught; exc = option_map exc_of l.exc }
