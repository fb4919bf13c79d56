use Rattle.std.proofs.Common.{◌≡◌, ◌++◌, List, ℕ, refl, sym, ◌∙◌, arith}
use Rattle.std.proofs.lemmas.List.{take-append-drop}
use Rattle.std.proofs.lemmas.Bool.Decides.{nat_tests}
use Rattle.pm_header.proofs.Pairs.{pair_read}
use Rattle.pm_header.proofs.reading.header_in.Goals as goal

pub returns-clause-spelled : goal.returns-clause-spelled
returns-clause-spelled c =
    let front : List ℕ = c.split_at.result.0.now in
    let line : List ℕ = c.split_at.result.1.now in
    let joined : c.args.words.now ≡ front ++ line = sym (take-append-drop 8 c.args.words.now) ∙ (λ i. sym c.split_at.ensures.front i ++ sym c.split_at.ensures.back i) in
    record {
      is_name = c.in_ok-name.ensures.spelled.is_name;
      spelled = joined ∙ pair_read _ front line c.split_at.ensures.front_len (grind (arith, nat_tests)) refl refl refl refl refl c.in_ok-name.ensures.spelled.spelled (grind (arith, nat_tests)) (grind (arith, nat_tests));
    }
