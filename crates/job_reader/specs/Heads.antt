-- The head of a step (its tokens before its semicolon or its first block), and what follows the head.
use Rattle.std.specs.Prelude.{List, ◌∷◌}
use Rattle.job_tree.specs.Tree.{Step, sleep, checkpoint, forever, pace, find, head, longest, need, raise, cancel, set_event, wait_for, ask_for, close_channel, scope, nursery, event, object, start, repeat, attempt}
use Rattle.job_syntax.specs.declared.keyword.Keyword.TheVariants as word
use Rattle.job_syntax.specs.declared.role.Role.TheVariants as role
use Rattle.job_syntax.specs.Pieces.{Piece, object_word, count_of, ask_word, block_or_end, keyword, name_piece, number, string, opens, ends, deadline_pieces, flag_pieces, over_pieces, passes_pieces, steps_pieces, handler_pieces, cleanup_pieces}

-- the head, followed by other tokens
abbrev pub head_onto : Step → List Piece → List Piece
head_onto (sleep ticks) rest = keyword word.Sleep ∷ number ticks ∷ rest
head_onto checkpoint rest = keyword word.Checkpoint ∷ rest
head_onto forever rest = keyword word.Forever ∷ rest
head_onto (pace per_tick) rest = keyword word.Pace ∷ number per_tick ∷ rest
head_onto (find text) rest = keyword word.Find ∷ string text ∷ rest
head_onto (head count) rest = keyword word.Head ∷ number count ∷ rest
head_onto longest rest = keyword word.Longest ∷ rest
head_onto (need text name) rest = keyword word.Need ∷ string text ∷ name_piece role.Raised name ∷ rest
head_onto (raise name) rest = keyword word.Raise ∷ name_piece role.Raised name ∷ rest
head_onto (cancel name) rest = keyword word.Cancel ∷ name_piece role.Target name ∷ rest
head_onto (set_event name) rest = keyword word.Set ∷ name_piece role.Target name ∷ rest
head_onto (wait_for name) rest = keyword word.Wait ∷ name_piece role.Target name ∷ rest
head_onto (ask_for name ask body) rest = keyword (ask_word ask) ∷ name_piece role.Target name ∷ rest
head_onto (close_channel name) rest = keyword word.Close ∷ name_piece role.Target name ∷ rest
head_onto (scope name deadline shield fail body) rest =
    keyword word.Scope ∷ name_piece role.Given name ∷ deadline_pieces deadline (flag_pieces word.Shield shield (flag_pieces word.Fail fail rest))
head_onto (nursery name deadline shield body) rest =
    keyword word.Nursery ∷ name_piece role.Given name ∷ deadline_pieces deadline (flag_pieces word.Shield shield rest)
head_onto (event name body) rest = keyword word.Event ∷ name_piece role.Given name ∷ rest
head_onto (object name kind body) rest = keyword (object_word kind) ∷ name_piece role.Given name ∷ number (count_of kind) ∷ rest
head_onto (start name over body) rest = keyword word.Start ∷ name_piece role.Given name ∷ over_pieces over rest
head_onto (repeat count over body) rest = keyword word.Repeat ∷ passes_pieces over count rest
head_onto (attempt body handler cleanup) rest = keyword word.Try ∷ rest

-- what follows the head, followed by other tokens
abbrev pub tail_onto : Step → List Piece → List Piece
tail_onto (scope name deadline shield fail body) rest = opens ∷ steps_pieces body rest
tail_onto (nursery name deadline shield body) rest = opens ∷ steps_pieces body rest
tail_onto (event name body) rest = opens ∷ steps_pieces body rest
tail_onto (object name kind body) rest = opens ∷ steps_pieces body rest
tail_onto (ask_for name ask body) rest = block_or_end ask (opens ∷ steps_pieces body rest) (ends ∷ rest)
tail_onto (start name over body) rest = opens ∷ steps_pieces body rest
tail_onto (repeat count over body) rest = opens ∷ steps_pieces body rest
tail_onto (attempt body handler cleanup) rest = opens ∷ steps_pieces body (handler_pieces handler (cleanup_pieces cleanup rest))
tail_onto _ rest = ends ∷ rest
