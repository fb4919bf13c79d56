-- The lines of a text in their places, some and then others.
use Rattle.std.proofs.Common.{◌≡◌, ℕ, ◌+◌, List, [], ◌∷◌, ◌++◌, length, Option, None, Some, option_to_list, refl, sym, ap, ◌∙◌, arith, inl}
use Rattle.std.specs.List.{cons_option, filter_map}
use Rattle.std.proofs.lemmas.List.Elements.{filter_map-append}
use Rattle.solo_script.specs.Reading.{HasRead, Reads, next_line}
use Rattle.solo_script.specs.Contexts.{Context, start}
use Rattle.solo_script.specs.Scripts.{Line, context_after, context_behind, context_from, fault_of, left, line_of, lines_from, said, IsBadLine}
use Rattle.solo_script.specs.Words.{words}
use Rattle.solo_script.specs.declared.fault.BadLine.{BadLine}
use Rattle.solo_script.specs.declared.reader.Reader.{Reader}

-- lines behind others
pub lines_behind : (context : Context) (n : ℕ) (front back : List (List ℕ)) → lines_from context n (front ++ back) ≡ lines_from context n front ++ lines_from (context_from context n front) (n + length front) back
lines_behind context n [] back = let here : n ≡ n + 0 = omega arith in ap (λ m. lines_from context m back) here
lines_behind context n (text ∷ front) back =
    let next = context_behind context n (said context (words text)) in
    let here : Line = record { number = n; context = context; text = text } in
    let counted : n + 1 + length front ≡ n + length (text ∷ front) = omega arith in
    ap (λ lines. here ∷ lines) (lines_behind next (n + 1) front back ∙ ap (λ m. lines_from next (n + 1) front ++ lines_from (context_from next (n + 1) front) m back) counted)

-- what they leave
pub left_behind : (context : Context) (n : ℕ) (front back : List (List ℕ)) → context_from context n (front ++ back) ≡ context_from (context_from context n front) (n + length front) back
left_behind context n [] back = let here : n ≡ n + 0 = omega arith in ap (λ m. context_from context m back) here
left_behind context n (text ∷ front) back =
    let next = context_behind context n (said context (words text)) in
    let counted : n + 1 + length front ≡ n + length (text ∷ front) = omega arith in
    left_behind next (n + 1) front back ∙ ap (λ m. context_from (context_from next (n + 1) front) m back) counted

one_of : {A : Type 0} (found : Option A) → cons_option found [] ≡ option_to_list found
one_of None = refl
one_of (Some x) = refl

module _ (old : Reader) (front : List (List ℕ)) (n : ℕ) (counted : 1 + length front ≡ n) (text : List ℕ) (has : HasRead old front) where
  -- the line behind those that were read
  place : (back : List (List ℕ)) → lines_from start 1 (front ++ text ∷ back) ≡ lines_from start 1 front ++ next_line old n text ∷ lines_from (context_after (next_line old n text)) (n + 1) back
  place back =
      lines_behind start 1 front (text ∷ back)
      ∙ ap (λ m. lines_from start 1 front ++ lines_from (left front) m (text ∷ back)) counted
      ∙ ap (λ c. lines_from start 1 front ++ lines_from c n (text ∷ back)) (sym has.context)

  -- what is found in the lines, and in this one
  found : {A : Type 0} (find : Line → Option A) (back : List (List ℕ))
      → filter_map find (lines_from start 1 (front ++ text ∷ back)) ≡ filter_map find (lines_from start 1 front) ++ cons_option (find (next_line old n text)) (filter_map find (lines_from (context_after (next_line old n text)) (n + 1) back))
  found find back = ap (filter_map find) (place back) ∙ filter_map-append find (lines_from start 1 front) _

  pub has_read_more : (new : Reader) → Reads old new (next_line old n text) → HasRead new (front ++ text ∷ [])
  has_read_more new reads = record {
    good = found fault_of [] ∙ ap (λ ls. ls ++ cons_option (fault_of (next_line old n text)) []) has.good ∙ ap (λ b. cons_option b []) reads.good;
    context = reads.context ∙ ap (λ c. context_behind c n (said c (words text))) has.context ∙ ap (λ m. context_behind (left front) m (said (left front) (words text))) (sym counted) ∙ sym (left_behind start 1 front (text ∷ []));
    said = reads.said ∙ ap (λ ls. ls ++ option_to_list (line_of (next_line old n text))) has.said ∙ ap (λ ls. filter_map line_of (lines_from start 1 front) ++ ls) (sym (one_of (line_of (next_line old n text)))) ∙ sym (found line_of []);
  }

  pub is_bad_line : (bad : BadLine) (back : List (List ℕ)) → fault_of (next_line old n text) ≡ Some bad → IsBadLine (front ++ text ∷ back) bad
  is_bad_line bad back is =
      let others = filter_map fault_of (lines_from (context_after (next_line old n text)) (n + 1) back) in
      inl (others, found fault_of back ∙ ap (λ ls. ls ++ cons_option (fault_of (next_line old n text)) others) has.good ∙ ap (λ b. cons_option b others) is)
