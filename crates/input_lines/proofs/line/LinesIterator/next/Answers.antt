use Rattle.std.proofs.Common.{◌≡◌, ◌+◌, ◌-◌, ◌≤◌, ◌∷◌, length, take, slice_range, arith, ap, ◌∙◌, sym, refl}
use Rattle.input_lines.proofs.LineLemmas.{span, range, lines_of-newline, lines_of-last}
use Rattle.input_lines.specs.Lines.{lines_of}
use Rattle.input_lines.proofs.RangeLemmas.{length-slice_range, take-slice_range}
use Rattle.input_lines.proofs.line.LinesIterator.next.Goals as goal

pub returns-in-Some-clause-steps : goal.returns-in-Some-clause-steps
returns-in-Some-clause-steps c =
    let s = c.args.self.now in
    let k = c.in-Some.length in
    let found = lines_of-newline s.buffer.now s.next s.end k s.within c.in-Some.ensures in
    let fits : s.next + k + 1 ≤ s.end = found.0 in
    let text : take k (slice_range s.buffer.now s.next s.end) ≡ slice_range s.buffer.now s.next (s.next + k) =
    take-slice_range s.buffer.now s.next s.end k (omega arith) in
    let long : length (slice_range s.buffer.now s.next (s.next + k)) ≡ s.next + k - s.next =
    length-slice_range s.buffer.now s.next (s.next + k) (omega arith) in
    let len : length (take k (slice_range s.buffer.now s.next s.end)) ≡ k = omega (arith, ap length text) in
    record {
      first = found.1 ∙ ap (λ n. span s.next n ∷ lines_of s.buffer.now (range (s.next + k + 1) s.end)) (sym len);
      placed = record { within = omega arith; text = text ∙ ap (λ n. slice_range s.buffer.now s.next (s.next + n)) (sym len) };
      same_source = refl;
      same_end = refl;
    }

pub returns-in-Some-clause-goes : goal.returns-in-Some-clause-goes
returns-in-Some-clause-goes c =
    let s = c.args.self.now in
    let found = lines_of-newline s.buffer.now s.next s.end c.in-Some.length s.within c.in-Some.ensures in
    record { on = λ _. (tt, tt, omega (arith, ap length found.1)); keeps = tt; rests = λ _. tt }

pub returns-in-None-clause-steps : goal.returns-in-None-clause-steps
returns-in-None-clause-steps c =
    let s = c.args.self.now in
    let some : s.next + 1 ≤ s.end = omega arith in
    let len : length (slice_range s.buffer.now s.next s.end) ≡ s.end - s.next = length-slice_range s.buffer.now s.next s.end s.within in
    let end : s.next + (s.end - s.next) ≡ s.end = omega arith in
    record {
      first = lines_of-last s.buffer.now s.next s.end s.within (omega arith) c.in-None.ensures
          ∙ ap (λ n. span s.next n ∷ lines_of s.buffer.now (range s.end s.end)) (sym len);
      placed = record { within = omega arith; text = ap (slice_range s.buffer.now s.next) (sym (ap (λ n. s.next + n) len ∙ end)) };
      same_source = refl;
      same_end = refl;
    }
