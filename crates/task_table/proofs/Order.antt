-- Depth first, one row after another.
use Rattle.std.proofs.Common.{◌≡◌, ℕ, inl, inr, List, [], ◌∷◌, ◌++◌, Some, refl, ap, sym, ◌∙◌, append_assoc}
use Rattle.std.specs.Prelude.{All, IsSome, map, reverse, slice_get, slice_set}
use Rattle.std.specs.Option.{is_some}
use Rattle.std.proofs.lemmas.Bool.{cases_eq, false≢true}
use Rattle.std.proofs.lemmas.List.{append-nil, map-append, reverse-append, reverse-reverse}
use Rattle.std.proofs.lemmas.List.Elements.{All-nil, All-push}
use Rattle.std.proofs.lemmas.Option.{same_Some}
use Rattle.job_meaning.specs.Meaning.{From}
use Rattle.job_meaning.specs.Meaning as meaning
use Rattle.job_meaning.specs.Shown.{row_of}
use Rattle.interleavings.specs.Rows.{DepthFirst, no_more, and_more, record_of, records_by, cancelled_from_in}
use Rattle.interleavings.specs.Rows as interleaving
use Rattle.task_table.specs.declared.record.Record.{Record}
use Rattle.task_machine.specs.declared.entry.ScopeFrom.{ScopeFrom}
use Rattle.task_machine.specs.Noted.{IsSlice, from_of}
use Rattle.task_table.specs.Records.{AreSlices, row_in}
use Rattle.task_table.specs.declared.rows.TaskRow.{TaskRow}
use Rattle.task_table.specs.declared.rows.Ended.{Ended}
use Rattle.task_table.specs.Rows.{AreShown, IsRecordOf, IsShown, ShowRecords, ShowsEnd}
use Rattle.task_table.proofs.Apart.{TakesTop}
use Rattle.task_table.proofs.Lists.{changes_set}

-- what has been listed, where these rows are left, those on the stack first
pub record Listed (input : List ℕ) (rs : ℕ → interleaving.Row) (rows : List TaskRow) (stack : List ℕ) (records : List Record)
    (scopes_cancelled_from : List ScopeFrom) : Type 0 where
  pub done : List ℕ
  pub left : (s : ℕ) (row : TaskRow) → slice_get rows s ≡ Some row → IsSome row.end → IsShown input (rs s) row
  pub order : (rest : List ℕ) → DepthFirst rs (reverse stack) rest → DepthFirst rs (0 ∷ []) (done ++ rest)
  pub shown : map row_in records ≡ map (row_of input) (records_by rs done)
  pub slices : AreSlices input records
  pub cancelled_from : map from_of scopes_cancelled_from ≡ cancelled_from_in rs done

-- at first nothing has
pub listed_first : (input : List ℕ) (rs : ℕ → interleaving.Row) (rows : List TaskRow) (stack : List ℕ) (records : List Record)
    (scopes_cancelled_from : List ScopeFrom) → stack ≡ 0 ∷ [] → records ≡ [] → scopes_cancelled_from ≡ [] → AreShown input rs rows →
    Listed input rs rows stack records scopes_cancelled_from
listed_first input rs rows stack records scopes_cancelled_from a b c are =
    rw (a, b, c) record {
      done = [];
      left = λ s row is ended. are s row is;
      order = λ rest d. d;
      shown = refl;
      slices = All-nil (λ (r : Record). All (IsSlice input) r.entries.items);
      cancelled_from = refl;
    }

-- at last, where the stack is empty, all has
pub listed_last : {input : List ℕ} {rs : ℕ → interleaving.Row} {rows : List TaskRow} {stack : List ℕ} {records : List Record}
    {scopes_cancelled_from : List ScopeFrom} → stack ≡ [] → Listed input rs rows stack records scopes_cancelled_from → ShowRecords input rs records scopes_cancelled_from
listed_last none t =
    record {
      taken = t.done;
      order = rw (append-nil t.done) at (t.order [] (rw none no_more));
      records = t.shown;
      slices = t.slices;
      cancelled_from = t.cancelled_from;
    }

-- ---- one row more

records_more : (rs : ℕ → interleaving.Row) (done : List ℕ) (s : ℕ) → records_by rs (done ++ s ∷ []) ≡ records_by rs done ++ record_of (rs s) ∷ []
records_more rs [] s = refl
records_more rs (d ∷ done) s = ap (λ (x : List meaning.Record). record_of (rs d) ∷ x) (records_more rs done s)

cancelled_from_more : (rs : ℕ → interleaving.Row) (done : List ℕ) (s : ℕ) → cancelled_from_in rs (done ++ s ∷ []) ≡ cancelled_from_in rs done ++ (rs s).cancelled_from
cancelled_from_more rs [] s = append-nil (rs s).cancelled_from
cancelled_from_more rs (d ∷ done) s = ap (λ (x : List From). (rs d).cancelled_from ++ x) (cancelled_from_more rs done s)
    ∙ sym (append_assoc (rs d).cancelled_from (cancelled_from_in rs done) (rs s).cancelled_from)

-- the record of a row that is shown
shown_record : (input : List ℕ) (row : interleaving.Row) (start : ℕ) (ended : Ended) (r : Record) → start ≡ row.start → ShowsEnd input row ended →
    IsRecordOf start ended r → row_in r ≡ row_of input (record_of row)
shown_record input row start ended r at e is =
    rw (is.label, e.label, is.from_tick, at, is.to_tick, e.tick, is.ending, e.exc, is.entries, e.entries) refl

-- a row that is taken off the stack is followed by its children
order_more : (rs : ℕ → interleaving.Row) (s : ℕ) (stack children rest : List ℕ) → children ≡ (rs s).children →
    DepthFirst rs (reverse (stack ++ reverse children)) rest → DepthFirst rs (reverse (stack ++ s ∷ [])) (s ∷ rest)
order_more rs s stack children rest same d =
    let below : DepthFirst rs ((rs s).children ++ reverse stack) rest =
    rw (reverse-append stack (reverse children), reverse-reverse children, same) at d in
    rw (reverse-append stack (s ∷ [])) (and_more s (reverse stack) rest below)

module _ {input : List ℕ} {rs : ℕ → interleaving.Row} {rows after : List TaskRow} {stack grown : List ℕ} {records : List Record}
    {scopes_cancelled_from : List ScopeFrom} (t : Listed input rs rows stack records scopes_cancelled_from) (top : TakesTop rows after stack grown)
    (ended : Ended) (some : top.row.end ≡ Some ended) (r : Record) (of : IsRecordOf top.row.start ended r) where
  here : IsShown input (rs top.row_number) top.row
  here = t.left top.row_number top.row top.was (rw some refl)

  end : ShowsEnd input (rs top.row_number) ended
  end = rw some at here.end

  -- the rows that are left are shown as before
  left_after : (s : ℕ) (row : TaskRow) → slice_get (slice_set rows top.row_number top.out.hollow) s ≡ Some row → IsSome row.end →
      IsShown input (rs s) row
  left_after s row is has =
      let c = changes_set rows top.row_number top.row top.out.hollow top.was in
      elim (cases_eq s top.row_number) [
        | inl e ↦
            let same : top.out.hollow ≡ row = same_Some top.out.hollow row (sym c.is ∙ (ap (slice_get (slice_set rows top.row_number top.out.hollow)) (sym e) ∙ is)) in
            absurd (false≢true (sym (ap (λ (x : TaskRow). is_some x.end) (sym same) ∙ ap is_some top.out.endless) ∙ has))
        | inr differs ↦ t.left s row (sym (c.others s differs) ∙ is) has
      ]

  listed_more : Listed input rs (slice_set rows top.row_number top.out.hollow) (top.popped ++ reverse top.row.children.items) (records ++ r ∷ [])
      (scopes_cancelled_from ++ ended.cancelled_from.items)
  listed_more = record {
    done = t.done ++ top.row_number ∷ [];
    left = left_after;
    order = λ rest d.
        rw append_assoc (t.order (top.row_number ∷ rest)
        (rw top.top (order_more rs top.row_number top.popped top.row.children.items rest here.children d)));
    shown =
        let its = shown_record input (rs top.row_number) top.row.start ended r here.start end of in
        rw (
          map-append row_in records (r ∷ []),
          records_more rs t.done top.row_number,
          map-append (row_of input) (records_by rs t.done) (record_of (rs top.row_number) ∷ []),
          t.shown,
          its,
        ) refl;
    slices = All-push (λ (x : Record). All (IsSlice input) x.entries.items) records r t.slices (rw of.entries end.slices);
    cancelled_from =
        rw (map-append from_of scopes_cancelled_from ended.cancelled_from.items, cancelled_from_more rs t.done top.row_number, t.cancelled_from, end.cancelled_from) refl;
  }

-- after a step of the loop one row more has been listed
pub listed_step : {input : List ℕ} {rs : ℕ → interleaving.Row} {rows after : List TaskRow} {stack grown : List ℕ}
    {records more_records : List Record} {scopes_cancelled_from more_cancelled_from : List ScopeFrom} → Listed input rs rows stack records scopes_cancelled_from →
    (top : TakesTop rows after stack grown) (ended : Ended) → top.row.end ≡ Some ended → (r : Record) → IsRecordOf top.row.start ended r →
    more_records ≡ records ++ r ∷ [] → more_cancelled_from ≡ scopes_cancelled_from ++ ended.cancelled_from.items → Listed input rs after grown more_records more_cancelled_from
listed_step t top ended some r of records_are cancelled_from_are =
    rw (top.out.set, top.grows, records_are, cancelled_from_are) (listed_more t top ended some r of)
