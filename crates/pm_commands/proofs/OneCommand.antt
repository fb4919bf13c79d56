-- Words are one command at most, and ask for one thing.
use Rattle.std.proofs.Common.{eqb, get_or, ◌≡◌, ℕ, List, true, false, inl, inr, Option, Some, None, codes, refl, sym, ap, ◌∙◌, subst}
use Rattle.std.specs.Borrow.{Bor}
use Rattle.clap.specs.Words.{Row, Text, fault_of, first_of}
use Rattle.clap.specs.declared.error.kind.ErrorKind.TheVariants.{DisplayHelp, DisplayVersion}
use Rattle.pm_options.proofs.Commands.{nothing_among, one_given}
use Rattle.pm_options.specs.Asked.{IsAsked, check_asked, create_asked, exec_asked, recover_asked}
use Rattle.pm_options.specs.Program.{program}
use Rattle.pm_options.specs.Words.{Check, Create, Exec, HasCheck, HasCreate, HasExec, HasNumber, HasNumberIfThere, HasNumberOrZero, HasRecover, HasStops, HasValue, IsCheck, IsCreate, IsDump, IsExec, IsGiven, IsHelp, IsInfo, IsRecover, Recover}
use Rattle.pm_options.specs.declared.command.CheckWords.{CheckWords}
use Rattle.pm_options.specs.declared.command.CreateWords.{CreateWords}
use Rattle.pm_options.specs.declared.command.ExecWords.{ExecWords}
use Rattle.pm_options.specs.declared.command.RecoverWords.{RecoverWords}
use Rattle.pm_options.specs.declared.command.Command.{Command}
use Rattle.pm_options.specs.declared.command.Command.TheVariants as command
use Rattle.pm_script.specs.Numbers.{number_of}
use Rattle.pm_script.specs.Stops.{AreStops, parts}
use Rattle.pm_script.proofs.StopLists.{stops_once}

some_text : (a b : Text) → Some a ≡ Some b → a ≡ b
some_text a b same = cc

some_number : (a b : ℕ) → Some a ≡ Some b → a ≡ b
some_number a b same = cc

-- an option has one value at most
one_value : (rows : List Row) (name a b : Text) → HasValue rows name a → HasValue rows name b → a ≡ b
one_value rows name a b is also = some_text a b (sym is ∙ also)

one_number : (rows : List Row) (name : Text) (n m : ℕ) → HasNumber rows name n → HasNumber rows name m → n ≡ m
one_number rows name n m is also = some_number n m (sym is.2 ∙ ap number_of (one_value rows name is.0 also.0 is.1 also.1) ∙ also.2)

-- it has a value, or is left out
not_left_out : (rows : List Row) (name text : Text) → first_of name rows ≡ None → HasValue rows name text → ⊥
not_left_out rows name text none some = let clash : None ≡ Some text = sym none ∙ some in cc

one_number_or_zero : (rows : List Row) (name : Text) (n m : ℕ) → HasNumberOrZero rows name n → HasNumberOrZero rows name m → n ≡ m
one_number_or_zero rows name n m (inl is) (inl also) = is.1 ∙ sym also.1
one_number_or_zero rows name n m (inl is) (inr also) = absurd (not_left_out rows name also.0 is.0 also.1)
one_number_or_zero rows name n m (inr is) (inl also) = absurd (not_left_out rows name is.0 also.0 is.1)
one_number_or_zero rows name n m (inr is) (inr also) = one_number rows name n m is also

one_number_if_there : (rows : List Row) (name : Text) (n m : Option ℕ) → HasNumberIfThere rows name n → HasNumberIfThere rows name m → n ≡ m
one_number_if_there rows name None None is also = refl
one_number_if_there rows name None (Some m) is also = absurd (not_left_out rows name also.0 is also.1)
one_number_if_there rows name (Some n) None is also = absurd (not_left_out rows name is.0 also is.1)
one_number_if_there rows name (Some n) (Some m) is also = ap Some (one_number rows name n m is also)

one_list_of_stops : (rows : List Row) (stops other : List (ℕ × ℕ)) → HasStops rows stops → HasStops rows other → stops ≡ other
one_list_of_stops rows stops other (inl is) (inl also) = is.1 ∙ sym also.1
one_list_of_stops rows stops other (inl is) (inr also) = absurd (not_left_out rows (codes "stops") also.0 is.0 also.1)
one_list_of_stops rows stops other (inr is) (inl also) = absurd (not_left_out rows (codes "stops") is.0 also.0 is.1)
one_list_of_stops rows stops other (inr is) (inr also) =
    let same : also.0 ≡ is.0 = one_value rows (codes "stops") also.0 is.0 also.1 is.1 in
    stops_once (parts is.0) stops other is.2 (subst (λ (text : Text). AreStops text other) same also.2)

one_create : (rows : List Row) (c other : Create) → HasCreate rows c → HasCreate rows other → c ≡ other
one_create rows c other is also = λ k. record {
  pool = one_value rows (codes "POOL") c.pool other.pool is.pool also.pool k;
  wanted = record {
    lanes = one_number rows (codes "lanes") c.wanted.lanes other.wanted.lanes is.lanes also.lanes k;
    zones = one_number rows (codes "zones") c.wanted.zones other.wanted.zones is.zones also.zones k;
    id = one_number rows (codes "id") c.wanted.id other.wanted.id is.id also.id k;
    layout = one_value rows (codes "layout") c.wanted.layout other.wanted.layout is.layout also.layout k;
    root = one_number rows (codes "root") c.wanted.root other.wanted.root is.root also.root k;
  };
}

one_exec : (rows : List Row) (e other : Exec) → HasExec rows e → HasExec rows other → e ≡ other
one_exec rows e other is also = λ k. record {
  pool = one_value rows (codes "POOL") e.pool other.pool is.pool also.pool k;
  script = one_value rows (codes "script") e.script other.script is.script also.script k;
  out = one_value rows (codes "out") e.out other.out is.out also.out k;
  layout = one_value rows (codes "layout") e.layout other.layout is.layout also.layout k;
  stops = one_list_of_stops rows e.stops other.stops is.stops also.stops k;
  keep = one_number_or_zero rows (codes "keep") e.keep other.keep is.keep also.keep k;
}

one_recover : (rows : List Row) (r other : Recover) → HasRecover rows r → HasRecover rows other → r ≡ other
one_recover rows r other is also = λ k. record {
  pool = one_value rows (codes "POOL") r.pool other.pool is.pool also.pool k;
  out = one_value rows (codes "out") r.out other.out is.out also.out k;
  stop = one_number_if_there rows (codes "stop") r.stop other.stop is.stop also.stop k;
  keep = one_number_or_zero rows (codes "keep") r.keep other.keep is.keep also.keep k;
}

one_check : (rows : List Row) (c other : Check) → HasCheck rows c → HasCheck rows other → c ≡ other
one_check rows c other is also = λ k. record {
  pool = one_value rows (codes "POOL") c.pool other.pool is.pool also.pool k;
  repair = (sym is.repair ∙ also.repair) k;
}

-- so are the words' values
same_rows : (words : List Text) (name : Text) (rows more : List Row) → IsGiven words name rows → IsGiven words name more → more ≡ rows
same_rows words name rows more is also = sym (one_given words name name rows more is also).1

same_create : (words : List Text) (c other : Create) → IsCreate words c → IsCreate words other → c ≡ other
same_create words c other is also =
    one_create is.0 c other is.2 (subst (λ (rows : List Row). HasCreate rows other) (same_rows words (codes "create") is.0 also.0 is.1 also.1) also.2)

same_exec : (words : List Text) (e other : Exec) → IsExec words e → IsExec words other → e ≡ other
same_exec words e other is also =
    one_exec is.0 e other is.2 (subst (λ (rows : List Row). HasExec rows other) (same_rows words (codes "exec") is.0 also.0 is.1 also.1) also.2)

same_recover : (words : List Text) (r other : Recover) → IsRecover words r → IsRecover words other → r ≡ other
same_recover words r other is also =
    one_recover is.0 r other is.2 (subst (λ (rows : List Row). HasRecover rows other) (same_rows words (codes "recover") is.0 also.0 is.1 also.1) also.2)

same_check : (words : List Text) (c other : Check) → IsCheck words c → IsCheck words other → c ≡ other
same_check words c other is also =
    one_check is.0 c other is.2 (subst (λ (rows : List Row). HasCheck rows other) (same_rows words (codes "check") is.0 also.0 is.1 also.1) also.2)

same_info : (words : List Text) (pool other : Text) → IsInfo words pool → IsInfo words other → pool ≡ other
same_info words pool other is also =
    one_value is.0 (codes "POOL") pool other is.2 (subst (λ (rows : List Row). HasValue rows (codes "POOL") other) (same_rows words (codes "info") is.0 also.0 is.1 also.1) also.2)

same_dump : (words : List Text) (pool other : Text) → IsDump words pool → IsDump words other → pool ≡ other
same_dump words pool other is also =
    one_value is.0 (codes "POOL") pool other is.2 (subst (λ (rows : List Row). HasValue rows (codes "POOL") other) (same_rows words (codes "dump") is.0 also.0 is.1 also.1) also.2)

-- words that ask for help are no command
no_help : (words : List Text) (name : Text) (rows : List Row) → IsGiven words name rows → IsHelp words → ⊥
no_help words name rows given (inl among) = nothing_among DisplayHelp (fault_of program words) among given.no_fault
no_help words name rows given (inr among) = nothing_among DisplayVersion (fault_of program words) among given.no_fault

-- the commands differ in their second letter
abbrev letter : Text → ℕ
letter text = get_or text 1 0

apart : (name other : Text) → eqb (letter name) (letter name) ≡ true → eqb (letter name) (letter other) ≡ false → name ≡ other → ⊥
apart name other self differs same = let clash : true ≡ false = sym self ∙ ap (λ (text : Text). eqb (letter name) (letter text)) same ∙ differs in cc

-- words do not name two commands
two_names : (words : List Text) (name other : Text) (rows more : List Row) → IsGiven words name rows → IsGiven words other more
    → eqb (letter name) (letter name) ≡ true → eqb (letter name) (letter other) ≡ false → ⊥
two_names words name other rows more given also self differs = apart name other self differs (one_given words name other rows more given also).0

-- what is said of the command that the words ask for is said of the one that they are
pub only_create : (words : List Text) (c : Create) → IsCreate words c → (asked : Command) → IsAsked words asked → (F : Command → Type 0) (G : Create → Type 0)
    → ((other : CreateWords) → F (command.Create other) → G (create_asked other)) → F asked → G c
only_create words c is (command.Create other) also F G step holds = subst G (same_create words (create_asked other) c also is) (step other holds)
only_create words c is (command.Exec other) also F G step holds = absurd (two_names words (codes "create") (codes "exec") is.0 also.0 is.1 also.1 refl refl)
only_create words c is (command.Recover other) also F G step holds = absurd (two_names words (codes "create") (codes "recover") is.0 also.0 is.1 also.1 refl refl)
only_create words c is (command.Check other) also F G step holds = absurd (two_names words (codes "create") (codes "check") is.0 also.0 is.1 also.1 refl refl)
only_create words c is (command.Info other) also F G step holds = absurd (two_names words (codes "create") (codes "info") is.0 also.0 is.1 also.1 refl refl)
only_create words c is (command.Dump other) also F G step holds = absurd (two_names words (codes "create") (codes "dump") is.0 also.0 is.1 also.1 refl refl)
only_create words c is (command.Help text) also F G step holds = absurd (no_help words (codes "create") is.0 is.1 also)

pub only_exec : (words : List Text) (e : Exec) → IsExec words e → (asked : Command) → IsAsked words asked → (F : Command → Type 0) (G : Exec → Type 0)
    → ((other : ExecWords) → F (command.Exec other) → G (exec_asked other)) → F asked → G e
only_exec words e is (command.Exec other) also F G step holds = subst G (same_exec words (exec_asked other) e also is) (step other holds)
only_exec words e is (command.Create other) also F G step holds = absurd (two_names words (codes "exec") (codes "create") is.0 also.0 is.1 also.1 refl refl)
only_exec words e is (command.Recover other) also F G step holds = absurd (two_names words (codes "exec") (codes "recover") is.0 also.0 is.1 also.1 refl refl)
only_exec words e is (command.Check other) also F G step holds = absurd (two_names words (codes "exec") (codes "check") is.0 also.0 is.1 also.1 refl refl)
only_exec words e is (command.Info other) also F G step holds = absurd (two_names words (codes "exec") (codes "info") is.0 also.0 is.1 also.1 refl refl)
only_exec words e is (command.Dump other) also F G step holds = absurd (two_names words (codes "exec") (codes "dump") is.0 also.0 is.1 also.1 refl refl)
only_exec words e is (command.Help text) also F G step holds = absurd (no_help words (codes "exec") is.0 is.1 also)

pub only_recover : (words : List Text) (r : Recover) → IsRecover words r → (asked : Command) → IsAsked words asked → (F : Command → Type 0) (G : Recover → Type 0)
    → ((other : RecoverWords) → F (command.Recover other) → G (recover_asked other)) → F asked → G r
only_recover words r is (command.Recover other) also F G step holds = subst G (same_recover words (recover_asked other) r also is) (step other holds)
only_recover words r is (command.Create other) also F G step holds = absurd (two_names words (codes "recover") (codes "create") is.0 also.0 is.1 also.1 refl refl)
only_recover words r is (command.Exec other) also F G step holds = absurd (two_names words (codes "recover") (codes "exec") is.0 also.0 is.1 also.1 refl refl)
only_recover words r is (command.Check other) also F G step holds = absurd (two_names words (codes "recover") (codes "check") is.0 also.0 is.1 also.1 refl refl)
only_recover words r is (command.Info other) also F G step holds = absurd (two_names words (codes "recover") (codes "info") is.0 also.0 is.1 also.1 refl refl)
only_recover words r is (command.Dump other) also F G step holds = absurd (two_names words (codes "recover") (codes "dump") is.0 also.0 is.1 also.1 refl refl)
only_recover words r is (command.Help text) also F G step holds = absurd (no_help words (codes "recover") is.0 is.1 also)

pub only_check : (words : List Text) (c : Check) → IsCheck words c → (asked : Command) → IsAsked words asked → (F : Command → Type 0) (G : Check → Type 0)
    → ((other : CheckWords) → F (command.Check other) → G (check_asked other)) → F asked → G c
only_check words c is (command.Check other) also F G step holds = subst G (same_check words (check_asked other) c also is) (step other holds)
only_check words c is (command.Create other) also F G step holds = absurd (two_names words (codes "check") (codes "create") is.0 also.0 is.1 also.1 refl refl)
only_check words c is (command.Exec other) also F G step holds = absurd (two_names words (codes "check") (codes "exec") is.0 also.0 is.1 also.1 refl refl)
only_check words c is (command.Recover other) also F G step holds = absurd (two_names words (codes "check") (codes "recover") is.0 also.0 is.1 also.1 refl refl)
only_check words c is (command.Info other) also F G step holds = absurd (two_names words (codes "check") (codes "info") is.0 also.0 is.1 also.1 refl refl)
only_check words c is (command.Dump other) also F G step holds = absurd (two_names words (codes "check") (codes "dump") is.0 also.0 is.1 also.1 refl refl)
only_check words c is (command.Help text) also F G step holds = absurd (no_help words (codes "check") is.0 is.1 also)

pub only_info : (words : List Text) (pool : Text) → IsInfo words pool → (asked : Command) → IsAsked words asked → (F : Command → Type 0) (G : Text → Type 0)
    → ((other : Bor (List ℕ)) → F (command.Info other) → G other.now) → F asked → G pool
only_info words pool is (command.Info other) also F G step holds = subst G (same_info words other.now pool also is) (step other holds)
only_info words pool is (command.Create other) also F G step holds = absurd (two_names words (codes "info") (codes "create") is.0 also.0 is.1 also.1 refl refl)
only_info words pool is (command.Exec other) also F G step holds = absurd (two_names words (codes "info") (codes "exec") is.0 also.0 is.1 also.1 refl refl)
only_info words pool is (command.Recover other) also F G step holds = absurd (two_names words (codes "info") (codes "recover") is.0 also.0 is.1 also.1 refl refl)
only_info words pool is (command.Check other) also F G step holds = absurd (two_names words (codes "info") (codes "check") is.0 also.0 is.1 also.1 refl refl)
only_info words pool is (command.Dump other) also F G step holds = absurd (two_names words (codes "info") (codes "dump") is.0 also.0 is.1 also.1 refl refl)
only_info words pool is (command.Help text) also F G step holds = absurd (no_help words (codes "info") is.0 is.1 also)

pub only_dump : (words : List Text) (pool : Text) → IsDump words pool → (asked : Command) → IsAsked words asked → (F : Command → Type 0) (G : Text → Type 0)
    → ((other : Bor (List ℕ)) → F (command.Dump other) → G other.now) → F asked → G pool
only_dump words pool is (command.Dump other) also F G step holds = subst G (same_dump words other.now pool also is) (step other holds)
only_dump words pool is (command.Create other) also F G step holds = absurd (two_names words (codes "dump") (codes "create") is.0 also.0 is.1 also.1 refl refl)
only_dump words pool is (command.Exec other) also F G step holds = absurd (two_names words (codes "dump") (codes "exec") is.0 also.0 is.1 also.1 refl refl)
only_dump words pool is (command.Recover other) also F G step holds = absurd (two_names words (codes "dump") (codes "recover") is.0 also.0 is.1 also.1 refl refl)
only_dump words pool is (command.Check other) also F G step holds = absurd (two_names words (codes "dump") (codes "check") is.0 also.0 is.1 also.1 refl refl)
only_dump words pool is (command.Info other) also F G step holds = absurd (two_names words (codes "dump") (codes "info") is.0 also.0 is.1 also.1 refl refl)
only_dump words pool is (command.Help text) also F G step holds = absurd (no_help words (codes "dump") is.0 is.1 also)
