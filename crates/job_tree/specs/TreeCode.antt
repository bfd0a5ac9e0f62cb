-- Encodes blocks of steps as lists of marks, so that a contract can decide whether two blocks are equal.
use Rattle.std.specs.Prelude.{◌≡◌, ℕ, zero, suc, Bool, true, false, Option, None, List, [], ◌∷◌, refl}
use Rattle.std.specs.Coded.{Coded, code_by, coded×, coded_ℕ, coded_bool, coded_list, coded_option}
use Rattle.std.proofs.Common.{ap, ◌∙◌}
use Rattle.job_tree.specs.declared.deadline.Deadline.{Deadline}
use Rattle.job_tree.specs.declared.deadline.Deadline.TheVariants.{Never, After, At}
use Rattle.job_tree.specs.declared.format.Format.{Format}
use Rattle.job_tree.specs.declared.format.Format.TheVariants.{One, Two, Three}
use Rattle.job_tree.specs.declared.object.ObjectKind.{ObjectKind}
use Rattle.job_tree.specs.declared.object.ObjectKind.TheVariants.{Limiter, Channel}
use Rattle.job_tree.specs.declared.object.Ask.{Ask}
use Rattle.job_tree.specs.declared.object.Ask.TheVariants.{Acquire, Send, Receive}
use Rattle.job_tree.specs.Formats.{number_of}
use Rattle.job_tree.specs.Tree.{Step, sleep, checkpoint, forever, pace, find, head, longest, need, raise, cancel, set_event, wait_for, ask_for, close_channel, scope, nursery, event, object, start, repeat, attempt, Steps, stop, step, Handled, unhandled, except, Cleaned, uncleaned, finally, Tree}

abbrev to_pair : Deadline → ℕ × ℕ
to_pair Never = (0, 0)
to_pair (After n) = (1, n)
to_pair (At n) = (2, n)

abbrev from_pair : ℕ × ℕ → Deadline
from_pair (zero, n) = Never
from_pair (suc zero, n) = After n
from_pair (suc (suc k), n) = At n

pub from_to_pair : (d : Deadline) → from_pair (to_pair d) ≡ d
from_to_pair Never = refl
from_to_pair (After n) = refl
from_to_pair (At n) = refl

abbrev pub deadline_code : Coded Deadline
deadline_code = code_by (ℕ × ℕ) (coded× coded_ℕ coded_ℕ) to_pair from_pair from_to_pair

abbrev is_limiter : ObjectKind → Bool
is_limiter (Limiter n) = true
is_limiter (Channel n) = false

abbrev number_in : ObjectKind → ℕ
number_in (Limiter n) = n
number_in (Channel n) = n

abbrev kind_with : Bool → ℕ → ObjectKind
kind_with true n = Limiter n
kind_with false n = Channel n

kind_again : (kind : ObjectKind) → kind_with (is_limiter kind) (number_in kind) ≡ kind
kind_again (Limiter n) = refl
kind_again (Channel n) = refl

abbrev ask_number : Ask → ℕ
ask_number Acquire = 0
ask_number Send = 1
ask_number Receive = 2

abbrev ask_numbered : ℕ → Ask
ask_numbered zero = Acquire
ask_numbered (suc zero) = Send
ask_numbered (suc (suc n)) = Receive

ask_again : (ask : Ask) → ask_numbered (ask_number ask) ≡ ask
ask_again Acquire = refl
ask_again Send = refl
ask_again Receive = refl

-- A mark: the kind of step, a number, two strings, a deadline, two flags and a count.
pub record Mark : Type 0 where
  pub kind : ℕ
  pub number : ℕ
  pub first : List ℕ
  pub second : List ℕ
  pub deadline : Deadline
  pub flag : Bool
  pub other : Bool
  pub over : Option ℕ

abbrev Parts : Type 0
Parts = ((ℕ × ℕ) × (List ℕ × List ℕ)) × ((Deadline × Bool) × (Bool × Option ℕ))

abbrev pub mark_code : Coded Mark
mark_code =
    code_by Parts
    (coded× (coded× (coded× coded_ℕ coded_ℕ) (coded× (coded_list coded_ℕ) (coded_list coded_ℕ)))
    (coded× (coded× deadline_code coded_bool) (coded× coded_bool (coded_option coded_ℕ))))
    (λ m. (((m.kind, m.number), (m.first, m.second)), ((m.deadline, m.flag), (m.other, m.over))))
    (λ p. record {
      kind = p.0.0.0;
      number = p.0.0.1;
      first = p.0.1.0;
      second = p.0.1.1;
      deadline = p.1.0.0;
      flag = p.1.0.1;
      other =
          p.1.1.0;
      over = p.1.1.1;
    })
    (λ _. refl)

abbrev plain_mark : ℕ → ℕ → List ℕ → List ℕ → Mark
plain_mark kind n a b = record { kind = kind; number = n; first = a; second = b; deadline = Never; flag = false; other = false; over = None }

abbrev handler_name : Handled → List ℕ
handler_name unhandled = []
handler_name (except name body) = name

abbrev has_handler : Handled → Bool
has_handler unhandled = false
has_handler (except name body) = true

abbrev has_cleanup : Cleaned → Bool
has_cleanup uncleaned = false
has_cleanup (finally body) = true

-- a block as marks; the mark of a step comes before the marks of its blocks
abbrev mutual
  marks_of : Steps → List Mark → List Mark
  marks_of stop rest = plain_mark 0 0 [] [] ∷ rest
  marks_of (step s ss) rest = marks_in s (marks_of ss rest)

  marks_in : Step → List Mark → List Mark
  marks_in (sleep n) rest = plain_mark 1 n [] [] ∷ rest
  marks_in checkpoint rest = plain_mark 2 0 [] [] ∷ rest
  marks_in forever rest = plain_mark 3 0 [] [] ∷ rest
  marks_in (pace k) rest = plain_mark 4 k [] [] ∷ rest
  marks_in (find text) rest = plain_mark 5 0 text [] ∷ rest
  marks_in (head n) rest = plain_mark 6 n [] [] ∷ rest
  marks_in longest rest = plain_mark 7 0 [] [] ∷ rest
  marks_in (need text name) rest = plain_mark 8 0 text name ∷ rest
  marks_in (raise name) rest = plain_mark 9 0 name [] ∷ rest
  marks_in (cancel name) rest = plain_mark 10 0 name [] ∷ rest
  marks_in (set_event name) rest = plain_mark 16 0 name [] ∷ rest
  marks_in (wait_for name) rest = plain_mark 17 0 name [] ∷ rest
  marks_in (ask_for name ask body) rest = plain_mark 20 (ask_number ask) name [] ∷ marks_of body rest
  marks_in (close_channel name) rest = plain_mark 21 0 name [] ∷ rest
  marks_in (scope name deadline shield fail body) rest =
      record { kind = 11; number = 0; first = name; second = []; deadline = deadline; flag = shield; other = fail; over = None }
      ∷ marks_of body rest
  marks_in (nursery name deadline shield body) rest =
      record { kind = 12; number = 0; first = name; second = []; deadline = deadline; flag = shield; other = false; over = None }
      ∷ marks_of body rest
  marks_in (event name body) rest = plain_mark 18 0 name [] ∷ marks_of body rest
  marks_in (object name kind body) rest =
      record {
        kind = 19;
        number = number_in kind;
        first = name;
        second = [];
        deadline = Never;
        flag = is_limiter kind;
        other = false;
        over = None;
      }
      ∷ marks_of body rest
  marks_in (start name over body) rest =
      record { kind = 13; number = 0; first = name; second = []; deadline = Never; flag = false; other = false; over = over }
      ∷ marks_of body rest
  marks_in (repeat count over body) rest =
      record { kind = 14; number = count; first = []; second = []; deadline = Never; flag = over; other = false; over = None }
      ∷ marks_of body rest
  marks_in (attempt body handler cleanup) rest =
      record {
        kind = 15;
        number = 0;
        first = handler_name handler;
        second = [];
        deadline = Never;
        flag = has_handler handler;
        other =
            has_cleanup cleanup;
        over = None;
      }
      ∷ marks_of body (handler_marks handler (cleanup_marks cleanup rest))

  handler_marks : Handled → List Mark → List Mark
  handler_marks unhandled rest = rest
  handler_marks (except name body) rest = marks_of body rest

  cleanup_marks : Cleaned → List Mark → List Mark
  cleanup_marks uncleaned rest = rest
  cleanup_marks (finally body) rest = marks_of body rest

-- blocks that were decoded, the innermost first
abbrev Blocks : Type 0
Blocks = List Steps

-- adds a step at the start of the first block
abbrev put : Step → Blocks → Blocks
put s [] = []
put s (ss ∷ others) = step s ss ∷ others

-- makes the first block part of a step
abbrev put_block : (Steps → Step) → Blocks → Blocks
put_block make [] = []
put_block make (body ∷ others) = put (make body) others

abbrev put_cleaned : (Cleaned → Step) → Bool → Blocks → Blocks
put_cleaned make false others = put (make uncleaned) others
put_cleaned make true [] = []
put_cleaned make true (last ∷ others) = put (make (finally last)) others

abbrev put_handled : (Handled → Cleaned → Step) → List ℕ → Bool → Bool → Blocks → Blocks
put_handled make name false with_cleanup others = put_cleaned (make unhandled) with_cleanup others
put_handled make name true with_cleanup [] = []
put_handled make name true with_cleanup (body ∷ others) = put_cleaned (make (except name body)) with_cleanup others

abbrev put_attempt : List ℕ → Bool → Bool → Blocks → Blocks
put_attempt name with_handler with_cleanup [] = []
put_attempt name with_handler with_cleanup (body ∷ others) = put_handled (attempt body) name with_handler with_cleanup others

abbrev read_kind : ℕ → Mark → Blocks → Blocks
read_kind zero m b = stop ∷ b
read_kind (suc zero) m b = put (sleep m.number) b
read_kind (suc (suc zero)) m b = put checkpoint b
read_kind (suc (suc (suc zero))) m b = put forever b
read_kind (suc (suc (suc (suc zero)))) m b = put (pace m.number) b
read_kind (suc (suc (suc (suc (suc zero))))) m b = put (find m.first) b
read_kind (suc (suc (suc (suc (suc (suc zero)))))) m b = put (head m.number) b
read_kind (suc (suc (suc (suc (suc (suc (suc zero))))))) m b = put longest b
read_kind (suc (suc (suc (suc (suc (suc (suc (suc zero)))))))) m b = put (need m.first m.second) b
read_kind (suc (suc (suc (suc (suc (suc (suc (suc (suc zero))))))))) m b = put (raise m.first) b
read_kind (suc (suc (suc (suc (suc (suc (suc (suc (suc (suc zero)))))))))) m b = put (cancel m.first) b
read_kind (suc (suc (suc (suc (suc (suc (suc (suc (suc (suc (suc zero))))))))))) m b = put_block (scope m.first m.deadline m.flag m.other) b
read_kind (suc (suc (suc (suc (suc (suc (suc (suc (suc (suc (suc (suc zero)))))))))))) m b = put_block (nursery m.first m.deadline m.flag) b
read_kind (suc (suc (suc (suc (suc (suc (suc (suc (suc (suc (suc (suc (suc zero))))))))))))) m b = put_block (start m.first m.over) b
read_kind (suc (suc (suc (suc (suc (suc (suc (suc (suc (suc (suc (suc (suc (suc zero)))))))))))))) m b = put_block (repeat m.number m.flag) b
read_kind (suc (suc (suc (suc (suc (suc (suc (suc (suc (suc (suc (suc (suc (suc (suc zero))))))))))))))) m b = put_attempt m.first m.flag m.other b
read_kind (suc (suc (suc (suc (suc (suc (suc (suc (suc (suc (suc (suc (suc (suc (suc (suc zero)))))))))))))))) m b = put (set_event m.first) b
read_kind (suc (suc (suc (suc (suc (suc (suc (suc (suc (suc (suc (suc (suc (suc (suc (suc (suc zero))))))))))))))))) m b = put (wait_for m.first) b
read_kind (suc (suc (suc (suc (suc (suc (suc (suc (suc (suc (suc (suc (suc (suc (suc (suc (suc (suc zero)))))))))))))))))) m b = put_block (event m.first) b
read_kind (suc (suc (suc (suc (suc (suc (suc (suc (suc (suc (suc (suc (suc (suc (suc (suc (suc (suc (suc zero))))))))))))))))))) m b = put_block (object m.first (kind_with m.flag m.number)) b
read_kind (suc (suc (suc (suc (suc (suc (suc (suc (suc (suc (suc (suc (suc (suc (suc (suc (suc (suc (suc (suc zero)))))))))))))))))))) m b = put_block (ask_for m.first (ask_numbered m.number)) b
read_kind (suc (suc (suc (suc (suc (suc (suc (suc (suc (suc (suc (suc (suc (suc (suc (suc (suc (suc (suc (suc (suc k))))))))))))))))))))) m b = put (close_channel m.first) b

abbrev read_marks : List Mark → Blocks
read_marks [] = []
read_marks (m ∷ ms) = read_kind m.kind m (read_marks ms)

-- decoding the marks of a block returns the block
mutual
  pub read_block : (ss : Steps) (rest : List Mark) → read_marks (marks_of ss rest) ≡ ss ∷ read_marks rest
  read_block stop rest = refl
  read_block (step s ss) rest = read_step s (marks_of ss rest) ∙ ap (put s) (read_block ss rest)

  pub read_step : (s : Step) (rest : List Mark) → read_marks (marks_in s rest) ≡ put s (read_marks rest)
  read_step (sleep n) rest = refl
  read_step checkpoint rest = refl
  read_step forever rest = refl
  read_step (pace k) rest = refl
  read_step (find text) rest = refl
  read_step (head n) rest = refl
  read_step longest rest = refl
  read_step (need text name) rest = refl
  read_step (raise name) rest = refl
  read_step (cancel name) rest = refl
  read_step (set_event name) rest = refl
  read_step (wait_for name) rest = refl
  read_step (ask_for name ask body) rest = rw (ask_again ask) (ap (put_block (ask_for name ask)) (read_block body rest))
  read_step (close_channel name) rest = refl
  read_step (scope name deadline shield fail body) rest = ap (put_block (scope name deadline shield fail)) (read_block body rest)
  read_step (nursery name deadline shield body) rest = ap (put_block (nursery name deadline shield)) (read_block body rest)
  read_step (event name body) rest = ap (put_block (event name)) (read_block body rest)
  read_step (object name kind body) rest = rw (kind_again kind) (ap (put_block (object name kind)) (read_block body rest))
  read_step (start name over body) rest = ap (put_block (start name over)) (read_block body rest)
  read_step (repeat count over body) rest = ap (put_block (repeat count over)) (read_block body rest)
  read_step (attempt body handler cleanup) rest =
      ap (put_attempt (handler_name handler) (has_handler handler) (has_cleanup cleanup))
      (read_block body (handler_marks handler (cleanup_marks cleanup rest)))
      ∙ read_handler handler (cleanup_marks cleanup rest) (attempt body) (has_cleanup cleanup)
      ∙ read_cleanup cleanup rest (attempt body handler)

  pub read_handler : (h : Handled) (rest : List Mark) (make : Handled → Cleaned → Step) (with_cleanup : Bool) →
      put_handled make (handler_name h) (has_handler h) with_cleanup (read_marks (handler_marks h rest))
      ≡ put_cleaned (make h) with_cleanup (read_marks rest)
  read_handler unhandled rest make with_cleanup = refl
  read_handler (except name body) rest make with_cleanup = ap (put_handled make name true with_cleanup) (read_block body rest)

  pub read_cleanup : (c : Cleaned) (rest : List Mark) (make : Cleaned → Step) →
      put_cleaned make (has_cleanup c) (read_marks (cleanup_marks c rest)) ≡ put (make c) (read_marks rest)
  read_cleanup uncleaned rest make = refl
  read_cleanup (finally body) rest make = ap (put_cleaned make true) (read_block body rest)

abbrev first_block : Blocks → Steps
first_block [] = stop
first_block (ss ∷ others) = ss

-- the code of a block
abbrev pub steps_code : Coded Steps
steps_code =
    code_by (List Mark) (coded_list mark_code) (λ ss. marks_of ss []) (λ ms. first_block (read_marks ms))
    (λ ss. ap first_block (read_block ss []))

abbrev format_numbered : ℕ → Format
format_numbered zero = One
format_numbered (suc zero) = One
format_numbered (suc (suc zero)) = Two
format_numbered (suc (suc (suc n))) = Three

pub format_again : (f : Format) → format_numbered (number_of f) ≡ f
format_again One = refl
format_again Two = refl
format_again Three = refl

-- the code of a format
abbrev pub format_code : Coded Format
format_code = code_by ℕ coded_ℕ number_of format_numbered format_again

-- the code of a job
abbrev pub tree_code : Coded Tree
tree_code =
    code_by (Format × (List ℕ × Steps)) (coded× format_code (coded× (coded_list coded_ℕ) steps_code))
    (λ j. (j.format, (j.name, j.steps))) (λ p. record { format = p.0; name = p.1.0; steps = p.1.1 }) (λ _. refl)
