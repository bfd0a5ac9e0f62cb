-- The state of a world after a mutable borrow of one of its parts.
use Rattle.std.specs.Prelude.{[]}
use Rattle.std.specs.Borrow.{Lends, MutBor, Fml}
use Rattle.cancel_scopes.specs.Tree.{Tree}
use Rattle.cancel_scopes.specs.contracts.ScopeTree as scope_tree
use Rattle.nursery_book.specs.declared.book.NurseryBook.{NurseryBook}
use Rattle.nursery_book.specs.contracts.NurseryBook as nursery_book
use Rattle.task_machine.specs.declared.world.World.{World}
use Rattle.task_machine.specs.contracts.world.World as world
use mir.Syntax.{named}

-- the world with this tree, and nothing else changed
abbrev pub with_scopes : World → Tree → World
with_scopes w tree = record w { scopes = tree }

-- the world with this book, and nothing else changed
abbrev pub with_book : World → NurseryBook → World
with_book w book = record w { book = book }

-- once the borrow ends, the world has the last tree (the lifetime named 0 is that of its tasks)
abbrev pub lends_scopes : MutBor World → MutBor Tree → Fml
lends_scopes w r = Lends (world.the_row (record { mir = named 0; lft = [] })) scope_tree.the_row w r (with_scopes w.now)

-- once the borrow ends, the world has the last book
abbrev pub lends_book : MutBor World → MutBor NurseryBook → Fml
lends_book w r = Lends (world.the_row (record { mir = named 0; lft = [] })) nursery_book.the_row w r (with_book w.now)
