-- A text with changes: pieces in place of some of its bytes, and all other bytes unchanged.
use Rattle.std.specs.Prelude.{ℕ, ◌-◌, List, [], ◌∷◌, ◌++◌, take, drop, codes, decimal}
use Rattle.job_edits.specs.declared.change.Piece.{Piece}
use Rattle.job_edits.specs.declared.change.Piece.TheVariants.{Raise, RaiseBefore, ThenRaise, RaiseFirst, Forever, ForeverBefore, Cancel, OpenScope, Close, Number, Sleep, SleepBefore, ThenSleep, ShieldedSleep, OpenRepeat, Single, After}
use Rattle.job_edits.specs.declared.change.Change.{Change}

-- how a piece is written; the semicolon after the step, or the brace, is that of the original text
abbrev pub piece_text : Piece → List ℕ
piece_text (Raise name) = codes "raise " ++ name
piece_text (RaiseBefore name) = codes "raise " ++ name ++ codes "; "
piece_text (ThenRaise name) = codes "; raise " ++ name
piece_text (RaiseFirst name) = codes " raise " ++ name ++ codes ";"
piece_text Forever = codes "forever"
piece_text ForeverBefore = codes "forever; "
piece_text (Cancel name) = codes "cancel " ++ name ++ codes "; "
piece_text (OpenScope name) = codes "{ scope " ++ name ++ codes " "
piece_text Close = codes " }"
piece_text (Number n) = decimal n
piece_text (Sleep n) = codes "sleep " ++ decimal n
piece_text (SleepBefore n) = codes "sleep " ++ decimal n ++ codes "; "
piece_text (ThenSleep n) = codes " sleep " ++ decimal n ++ codes ";"
piece_text (ShieldedSleep name n) = codes "scope " ++ name ++ codes " shield { sleep " ++ decimal n ++ codes "; } "
piece_text (OpenRepeat n) = codes "repeat " ++ decimal n ++ codes " { "
piece_text (Single n) = codes "_" ++ decimal n
piece_text (After n) = codes "_after_" ++ decimal n

-- the text from a place on, with the changes from there on, in the order of their places
abbrev pub changed_from : ℕ → List ℕ → List Change → List ℕ
changed_from at text [] = drop at text
changed_from at text (c ∷ cs) = take (c.from - at) (drop at text) ++ piece_text c.piece ++ changed_from c.to text cs

-- a text with its changes
abbrev pub changed_text : List ℕ → List Change → List ℕ
changed_text text changes = changed_from 0 text changes
