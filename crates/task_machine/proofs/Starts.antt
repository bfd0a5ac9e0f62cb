-- Children that are started.
use Rattle.std.proofs.Common.{◌≡◌, ℕ, zero, suc, ◌+◌, Option, Some, None, List, [], ◌∷◌, ◌++◌, length, length-append, append_assoc, refl, ap, sym, ◌∙◌, subst, arith}
use Rattle.std.proofs.lemmas.List.{append-nil}
use Rattle.std.specs.Option.{IsSomeAnd}
use Rattle.input_lines.specs.Part.{buffer_of, range_of}
use Rattle.input_lines.specs.Cuts.{cut_of}
use Rattle.input_lines.specs.Giving.{part_cut, cut_count, cuts_given, GivesCut}
use Rattle.input_lines.specs.Lines.{Range}
use Rattle.input_lines.specs.declared.cuts.Cuts.{Cuts}
use Rattle.input_lines.specs.declared.part.Part.{Part}
use Rattle.exceptions.specs.Exceptions.{Label}
use Rattle.job_tree.specs.Tree.{Steps}
use Rattle.nursery_book.specs.Nursery.{End, Nursery, with_start}
use Rattle.nursery_book.specs.Book.{nursery_at, HasNursery, Updates, Changes}
use Rattle.task_machine.specs.declared.stop.TaskState.TheVariants.{ToBegin}
use Rattle.task_machine.specs.declared.task.Home.{Home}
use Rattle.task_machine.specs.declared.task.Task.{Task}
use Rattle.task_machine.specs.Started.{IsChild, running_children, home_at, begins_in, StartsOne, StartsOver}
use Rattle.task_machine.specs.States.{State, path_at, lent_at}
use Rattle.task_machine.proofs.Stacked.{one_of}

home_is : (id index scope len n : ℕ) → index ≡ len → scope ≡ n →
    (let h : Home = record { nursery = id; index = index; scope = scope } in h) ≡ record { nursery = id; index = len + 0; scope = n }
home_is id index scope len n e f = (let g : index ≡ len + 0 = omega (arith, e) in cc)

-- one child is started, at the place that the book assigns
pub starts_one : (s u : State) (id : ℕ) (label : Label) (part : Part) (body : Steps) (task : Task) (scope index : ℕ) →
    HasNursery s.book id (λ n. scope ≡ n.scope) →
    HasNursery s.book id (λ n. index ≡ length n.children) → Changes s.book u.book id with_start →
    u.started ≡ s.started ++ task ∷ [] →
    IsChild (begins_in s) task label (buffer_of part) (range_of part) body (record { nursery = id; index = index; scope = scope }) →
    StartsOne s u id label part body
starts_one s u id label part body task scope index has p b started child = by_nursery (nursery_at s.book id) refl has p b
  where
    by_nursery : (o : Option Nursery) → nursery_at s.book id ≡ o → IsSomeAnd o (λ n. scope ≡ n.scope) →
        IsSomeAnd o (λ n. index ≡ length n.children) →
        IsSomeAnd o (λ n. Updates s.book u.book id (Some (with_start n))) → StartsOne s u id label part body
    by_nursery None e h p b = absurd h
    by_nursery (Some n) e h p b =
        record {
          nursery = n;
          was = e;
          book = b;
          task = task;
          started = started;
          child =
              record {
                label_is = child.label_is;
                input_is = child.input_is;
                range_is = child.range_is;
                home_is = child.home_is ∙ ap (λ (h : Home). Some h) (home_is id index scope (length n.children) n.scope p h);
                frames = child.frames;
                own = child.own;
                task_state = child.task_state;
                entries = child.entries;
                cancelled_from = child.cancelled_from;
                cancelled = child.cancelled;
              };
        }

-- ---- one more of those that are started over

running_length : (i : ℕ) → length (running_children i) ≡ i
running_length zero = refl
running_length (suc i) = length-append (running_children i) (None ∷ []) ∙ (let e = running_length i in omega (arith, e))

next_home : (id i : ℕ) (n : Nursery) → (let more : Nursery = record n { children = n.children ++ running_children i } in home_at id more 0)
    ≡ home_at id n i
next_home id i n =
    ap (λ (p : ℕ). (let h : Home = record { nursery = id; index = p; scope = n.scope } in h))
    (let e = length-append n.children (running_children i) in let f = running_length i in omega (arith, e, f))

-- at first none is
pub starts_none : (s : State) (id k : ℕ) (name : List ℕ) (body : Steps) (P : Nursery → Type 0) →
    HasNursery s.book id P → StartsOver s s id name k body 0
starts_none s id k name body P has = by_nursery (nursery_at s.book id) refl has
  where
    by_nursery : (o : Option Nursery) → nursery_at s.book id ≡ o → IsSomeAnd o P → StartsOver s s id name k body 0
    by_nursery None e has = absurd has
    by_nursery (Some n) e has =
        record {
          nursery = n;
          was = e;
          book = record {
            changed = e ∙ ap (λ (es : List End). Some (record n { children = es })) (sym (append-nil n.children));
            others =
                λ other differs. refl;
          };
          tasks = [];
          started = sym (append-nil s.started);
          children = refl;
        }

-- the cut that an iterator over cuts returned, by the part that it cuts
pub cut_given : (before after : Cuts) (given : Part) (input : List ℕ) (whole : Range) (k i : ℕ) → GivesCut before given after →
    buffer_of (part_cut before) ≡ input → range_of (part_cut before) ≡ whole → cut_count before ≡ k → cuts_given before ≡ i →
    range_of given ≡ cut_of input whole k i
cut_given before after given input whole k i g same_input same_range many at =
    g.range
    ∙ ap (λ (x : List ℕ). cut_of x (range_of (part_cut before)) (cut_count before) (cuts_given before)) same_input
    ∙ ap (λ (x : Range). cut_of input x (cut_count before) (cuts_given before)) same_range
    ∙ ap (λ (n : ℕ). cut_of input whole n (cuts_given before)) many
    ∙ ap (λ (n : ℕ). cut_of input whole k n) at

-- with one child more, on the next cut, one more of the children over cuts is started
pub starts_more : (s m u : State) (id k i : ℕ) (name : List ℕ) (label : Label) (part : Part) (body : Steps) →
    begins_in m ≡ begins_in s → StartsOver s m id name k body i → StartsOne m u id label part body →
    label ≡ record { name = name; indices = path_at s ++ i ∷ [] } →
    buffer_of part ≡ buffer_of s.part → range_of part ≡ cut_of (buffer_of s.part) (lent_at s).range k i →
    StartsOver s u id name k body (suc i)
starts_more s m u id k i name label part body begins h g named input cut =
    record {
      nursery = h.nursery;
      was = h.was;
      book =
          record {
            changed =
                g.book.changed ∙ ap (λ (n : Nursery). Some (with_start n)) same
                ∙ ap (λ (es : List End). Some (record h.nursery { children = es }))
                (append_assoc h.nursery.children (running_children i) (None ∷ []));
            others = λ other differs. g.book.others other differs ∙ h.book.others other differs;
          };
      tasks = h.tasks ++ g.task ∷ [];
      started = g.started ∙ ap (λ (ts : List Task). ts ++ g.task ∷ []) h.started ∙ append_assoc s.started h.tasks (g.task ∷ []);
      children = (
        h.tasks,
        g.task,
        refl,
        h.children,
        record {
          label_is = g.child.label_is ∙ named;
          input_is = g.child.input_is ∙ input;
          range_is = g.child.range_is ∙ cut;
          home_is = g.child.home_is ∙ ap (λ (n : Nursery). Some (home_at id n 0)) same
              ∙ ap (λ (x : Home). Some x) (next_home id i h.nursery);
          frames = g.child.frames;
          own = g.child.own;
          task_state = g.child.task_state ∙ ap (λ (x : ℕ). ToBegin x) begins;
          entries = g.child.entries;
          cancelled_from = g.child.cancelled_from;
          cancelled = g.child.cancelled;
        },
      );
    }
  where
    same : g.nursery ≡ record h.nursery { children = h.nursery.children ++ running_children i }
    same = one_of _ _ (sym g.was ∙ h.book.changed)

-- the body runs on
pub runs_on : (m u : State) (id : ℕ) (label : Label) (part : Part) (body : Steps) → StartsOne m u id label part body →
    HasNursery m.book id (λ n. n.body ≡ None) → HasNursery u.book id (λ n. n.body ≡ None)
runs_on m u id label part body g r =
    subst (λ (o : Option Nursery). IsSomeAnd o (λ n. n.body ≡ None)) (sym g.book.changed)
    (subst (λ (o : Option Nursery). IsSomeAnd o (λ n. n.body ≡ None)) g.was r)
