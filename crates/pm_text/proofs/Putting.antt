-- A text that is put line by line: what the sink tells after some lines, and after a fault.
use Rattle.std.proofs.Common.{◌≡◌, ℕ, ◌+◌, ◌<◌, ◌≤◌, List, [], ◌++◌, length, take, drop, min, Option, Some, None, Result, Ok, Err, IsErrOf, OnErr, refl, sym, ◌∙◌, ap, subst, arith, append_assoc, append-nil}
use Rattle.std.proofs.lemmas.List.{take_min, take-append-le, take-append-drop, take_at}
use Rattle.std.proofs.Math.Seq.{take-append-add}
use Rattle.pm_text.proofs.LineStarts.{IsFirstLineLength, next_start}
use Rattle.pm_text.specs.Lines.{IsLineStart, GainedLines}
use Rattle.pm_shelf.specs.Outside.{gained, GainedPart}
use Rattle.pm_shelf.specs.declared.sink.SinkFault.{SinkFault}
use Rattle.pm_shelf.specs.declared.sink.SinkFault.TheVariants.{Failed, Memory}

-- the lines in front of the rest were put
pub record HasPut (text rest : List ℕ) (before after : Option (List ℕ)) (faults faults_after : ℕ) : Type 0 where
  pub front : List ℕ
  pub split : text ≡ front ++ rest
  pub told : after ≡ gained before front
  pub count : faults ≤ faults_after
  pub starts : 0 < length rest → IsLineStart text (length front)

gained_nothing : (told : Option (List ℕ)) → gained told [] ≡ told
gained_nothing None = refl
gained_nothing (Some held) = ap Some (append-nil held)

gained_twice : (told : Option (List ℕ)) (one other : List ℕ) → gained (gained told one) other ≡ gained told (one ++ other)
gained_twice None one other = refl
gained_twice (Some held) one other = ap Some (append_assoc held one other)

-- one line more was put
pub put_more : (text rest line rest_after : List ℕ) (before told after : Option (List ℕ)) (faults faults_between faults_after : ℕ) → HasPut text rest before told faults faults_between
    → rest ≡ line ++ rest_after → IsFirstLineLength rest (length line) → after ≡ gained told line → faults_between ≤ faults_after → HasPut text rest_after before after faults faults_after
put_more text rest line rest_after before told after faults faults_between faults_after has cut first gains rises = record {
  front = has.front ++ line;
  split = has.split ∙ ap (λ (xs : List ℕ). has.front ++ xs) cut ∙ sym (append_assoc has.front line rest_after);
  told = gains ∙ ap (λ (held : Option (List ℕ)). gained held line) has.told ∙ gained_twice before has.front line;
  count = omega (arith, has.count);
  starts = λ some. next_start text has.front rest line rest_after has.split cut first some;
}

-- a part of the next line was put, so a part of the text was
pub part_of_line : (text rest line rest_after : List ℕ) (before told after : Option (List ℕ)) (faults faults_between : ℕ) → HasPut text rest before told faults faults_between → rest ≡ line ++ rest_after
    → GainedPart told after line → GainedPart before after text
part_of_line text rest line rest_after before told after faults faults_between has cut (n, gains) =
    let m : ℕ = min n (length line) in
    let within : m ≤ length line = omega arith in
    let part : take n line ≡ take m rest = sym (take_min n line) ∙ sym (take-append-le m line rest_after within) ∙ ap (take m) (sym cut) in
    let whole : has.front ++ take m rest ≡ take (length has.front + m) text = sym (take-append-add has.front rest m) ∙ ap (take (length has.front + m)) (sym has.split) in
    (length has.front + m, gains ∙ ap (gained told) part ∙ ap (λ (held : Option (List ℕ)). gained held (take m rest)) has.told ∙ gained_twice before has.front (take m rest) ∙ ap (gained before) whole)

-- a put that failed put a part of its line; one without memory nothing
pub part_of_put : (told after : Option (List ℕ)) (line : List ℕ) (r : Result (Unit {0}) SinkFault) (fault : SinkFault) → r ≡ Err fault → (IsErrOf r Failed → GainedPart told after line)
    → (IsErrOf r Memory → after ≡ told) → GainedPart told after line
part_of_put told after line r Failed is part nothing = part (subst (λ (x : Result (Unit {0}) SinkFault). IsErrOf x Failed) (sym is) refl)
part_of_put told after line r Memory is part nothing =
    (0, nothing (subst (λ (x : Result (Unit {0}) SinkFault). IsErrOf x Memory) (sym is) refl) ∙ sym (gained_nothing told))

-- a put without memory leaves whole lines
pub whole_lines : (text rest : List ℕ) (before told after : Option (List ℕ)) (faults faults_between : ℕ) (r result : Result (Unit {0}) SinkFault) → HasPut text rest before told faults faults_between → 0 < length rest → r ≡ result
    → (IsErrOf r Memory → after ≡ told) → IsErrOf result Memory → GainedLines before after text
whole_lines text rest before told after faults faults_between r result has some same nothing full =
    let front : has.front ≡ take (length has.front) text = sym (ap (take (length has.front)) has.split ∙ take_at has.front rest (length has.front) refl) in
    (length has.front, has.starts some, nothing (subst (λ (x : Result (Unit {0}) SinkFault). IsErrOf x Memory) (sym same) full) ∙ has.told ∙ ap (gained before) front)

-- a text cut in two
pub line_and_others : (rest line others : List ℕ) (n : ℕ) → line ≡ take n rest → others ≡ drop n rest → rest ≡ line ++ others
line_and_others rest line others n line_is others_is = sym (ap (λ (xs : List ℕ). xs ++ others) line_is ∙ ap (λ (xs : List ℕ). take n rest ++ xs) others_is ∙ take-append-drop n rest)

-- what holds anyhow
pub on_err : {P : Type 0} (r : Result (Unit {0}) SinkFault) → P → OnErr r P
on_err (Ok done) p = tt
on_err (Err fault) p = p
