-- Words are one command, or ask for help, or are faulty.
use Rattle.std.specs.Prelude.{String}
use Rattle.std.specs.declared.alloc.Global.{Global}
use Rattle.std.proofs.Common.{eqb, get_or, ◌≡◌, ℕ, false, ◌⊎◌, inl, inr, true, List, [], ◌∷◌, Option, Some, None, refl, sym, ◌∙◌, ap, subst, codes}
use Rattle.clap.specs.Words.{App, HasMatchesOf, IsAmong, Row, Text, app_of, fault_of, is_simple, is_simple_and_free, subcommand_of}
use Rattle.clap.specs.declared.builder.command.Command.{Command as Clap}
use Rattle.clap.specs.declared.error.kind.ErrorKind.{ErrorKind}
use Rattle.clap.specs.declared.error.kind.ErrorKind.TheVariants.{DisplayHelp, DisplayVersion, OutOfMemory}
use Rattle.clap.specs.declared.parser.matches.ArgMatches.{ArgMatches}
use Rattle.clap.proofs.OnLiterals.{clap_on_literals}
use Rattle.pm_options.specs.Asked.{HasFound, IsAsked, IsFault, IsHelpOf}
use Rattle.pm_options.specs.Program.{IsApp, program}
use Rattle.pm_options.specs.Words.{Check, Create, Exec, HasCheck, HasCreate, HasExec, HasRecover, HasValue, IsFaulty, IsGiven, IsNoCommand, Recover}
use Rattle.pm_options.specs.declared.command.Command.{Command}
use Rattle.pm_options.specs.declared.command.Command.TheVariants as command

abbrev name_in : Option (Text × List Row) → Text
name_in None = []
name_in (Some pair) = pair.0

abbrev rows_in : Option (Text × List Row) → List Row
rows_in None = []
rows_in (Some pair) = pair.1

pub one_given : (words : List Text) (name other : Text) (rows more : List Row) → IsGiven words name rows → IsGiven words other more → (name ≡ other) × (rows ≡ more)
one_given words name other rows more given also = (ap name_in (sym given.command ∙ also.command), ap rows_in (sym given.command ∙ also.command))

-- the words name a command, and none of the commands has these values for it
pub no_command : (words : List Text) (name : Text) (rows : List Row) → IsGiven words name rows
    → (name ≡ codes "create" → (c : Create) → ¬ HasCreate rows c)
    → (name ≡ codes "exec" → (e : Exec) → ¬ HasExec rows e)
    → (name ≡ codes "recover" → (r : Recover) → ¬ HasRecover rows r)
    → (name ≡ codes "check" → (c : Check) → ¬ HasCheck rows c)
    → (name ≡ codes "info" → (pool : Text) → ¬ HasValue rows (codes "POOL") pool)
    → (name ≡ codes "dump" → (pool : Text) → ¬ HasValue rows (codes "POOL") pool)
    → IsNoCommand words
no_command words name rows given no_create no_exec no_recover no_check no_info no_dump = record {
  no_create = λ c is.
      let same = one_given words name (codes "create") rows is.0 given is.1 in
      no_create same.0 c (subst (λ (rs : List Row). HasCreate rs c) (sym same.1) is.2);
  no_exec = λ e is.
      let same = one_given words name (codes "exec") rows is.0 given is.1 in
      no_exec same.0 e (subst (λ (rs : List Row). HasExec rs e) (sym same.1) is.2);
  no_recover = λ r is.
      let same = one_given words name (codes "recover") rows is.0 given is.1 in
      no_recover same.0 r (subst (λ (rs : List Row). HasRecover rs r) (sym same.1) is.2);
  no_check = λ c is.
      let same = one_given words name (codes "check") rows is.0 given is.1 in
      no_check same.0 c (subst (λ (rs : List Row). HasCheck rs c) (sym same.1) is.2);
  no_info = λ pool is.
      let same = one_given words name (codes "info") rows is.0 given is.1 in
      no_info same.0 pool (subst (λ (rs : List Row). HasValue rs (codes "POOL") pool) (sym same.1) is.2);
  no_dump = λ pool is.
      let same = one_given words name (codes "dump") rows is.0 given is.1 in
      no_dump same.0 pool (subst (λ (rs : List Row). HasValue rs (codes "POOL") pool) (sym same.1) is.2);
}

-- the commands differ in their second letter
abbrev letter : Text → ℕ
letter text = get_or text 1 0

apart : (name one other : Text) → name ≡ one → name ≡ other → eqb (letter one) (letter one) ≡ true → eqb (letter one) (letter other) ≡ false → ⊥
apart name one other is also self differs =
    let clash : true ≡ false = sym self ∙ ap (λ (text : Text). eqb (letter one) (letter text)) (sym is ∙ also) ∙ differs in absurd cc

-- the words name `create`, whose values it has not
pub not_create : (name : Text) (rows : List Row) → name ≡ codes "create" → ((c : Create) → ¬ HasCreate rows c) → (words : List Text) → IsGiven words name rows → IsNoCommand words
not_create name rows is none words given =
    no_command words name rows given (λ same. none)
    (λ other. absurd (apart name (codes "create") (codes "exec") is other refl refl))
    (λ other. absurd (apart name (codes "create") (codes "recover") is other refl refl))
    (λ other. absurd (apart name (codes "create") (codes "check") is other refl refl))
    (λ other. absurd (apart name (codes "create") (codes "info") is other refl refl))
    (λ other. absurd (apart name (codes "create") (codes "dump") is other refl refl))

pub not_exec : (name : Text) (rows : List Row) → name ≡ codes "exec" → ((e : Exec) → ¬ HasExec rows e) → (words : List Text) → IsGiven words name rows → IsNoCommand words
not_exec name rows is none words given =
    no_command words name rows given
    (λ other. absurd (apart name (codes "exec") (codes "create") is other refl refl))
    (λ same. none)
    (λ other. absurd (apart name (codes "exec") (codes "recover") is other refl refl))
    (λ other. absurd (apart name (codes "exec") (codes "check") is other refl refl))
    (λ other. absurd (apart name (codes "exec") (codes "info") is other refl refl))
    (λ other. absurd (apart name (codes "exec") (codes "dump") is other refl refl))

pub not_recover : (name : Text) (rows : List Row) → name ≡ codes "recover" → ((r : Recover) → ¬ HasRecover rows r) → (words : List Text) → IsGiven words name rows → IsNoCommand words
not_recover name rows is none words given =
    no_command words name rows given
    (λ other. absurd (apart name (codes "recover") (codes "create") is other refl refl))
    (λ other. absurd (apart name (codes "recover") (codes "exec") is other refl refl))
    (λ same. none)
    (λ other. absurd (apart name (codes "recover") (codes "check") is other refl refl))
    (λ other. absurd (apart name (codes "recover") (codes "info") is other refl refl))
    (λ other. absurd (apart name (codes "recover") (codes "dump") is other refl refl))

pub not_check : (name : Text) (rows : List Row) → name ≡ codes "check" → ((c : Check) → ¬ HasCheck rows c) → (words : List Text) → IsGiven words name rows → IsNoCommand words
not_check name rows is none words given =
    no_command words name rows given
    (λ other. absurd (apart name (codes "check") (codes "create") is other refl refl))
    (λ other. absurd (apart name (codes "check") (codes "exec") is other refl refl))
    (λ other. absurd (apart name (codes "check") (codes "recover") is other refl refl))
    (λ same. none)
    (λ other. absurd (apart name (codes "check") (codes "info") is other refl refl))
    (λ other. absurd (apart name (codes "check") (codes "dump") is other refl refl))

pub not_info : (name : Text) (rows : List Row) → name ≡ codes "info" → ((pool : Text) → ¬ HasValue rows (codes "POOL") pool) → (words : List Text) → IsGiven words name rows → IsNoCommand words
not_info name rows is none words given =
    no_command words name rows given
    (λ other. absurd (apart name (codes "info") (codes "create") is other refl refl))
    (λ other. absurd (apart name (codes "info") (codes "exec") is other refl refl))
    (λ other. absurd (apart name (codes "info") (codes "recover") is other refl refl))
    (λ other. absurd (apart name (codes "info") (codes "check") is other refl refl))
    (λ same. none)
    (λ other. absurd (apart name (codes "info") (codes "dump") is other refl refl))

pub not_dump : (name : Text) (rows : List Row) → name ≡ codes "dump" → ((pool : Text) → ¬ HasValue rows (codes "POOL") pool) → (words : List Text) → IsGiven words name rows → IsNoCommand words
not_dump name rows is none words given =
    no_command words name rows given
    (λ other. absurd (apart name (codes "dump") (codes "create") is other refl refl))
    (λ other. absurd (apart name (codes "dump") (codes "exec") is other refl refl))
    (λ other. absurd (apart name (codes "dump") (codes "recover") is other refl refl))
    (λ other. absurd (apart name (codes "dump") (codes "check") is other refl refl))
    (λ other. absurd (apart name (codes "dump") (codes "info") is other refl refl))
    (λ same. none)

-- the words name none of the commands
pub not_any : (name : Text) (rows : List Row) → (name ≡ codes "create" → ⊥) → (name ≡ codes "exec" → ⊥) → (name ≡ codes "recover" → ⊥) → (name ≡ codes "check" → ⊥) → (name ≡ codes "info" → ⊥) → (name ≡ codes "dump" → ⊥)
    → (words : List Text) → IsGiven words name rows → IsNoCommand words
not_any name rows no_create no_exec no_recover no_check no_info no_dump words given =
    no_command words name rows given (λ is. absurd (no_create is)) (λ is. absurd (no_exec is)) (λ is. absurd (no_recover is)) (λ is. absurd (no_check is)) (λ is. absurd (no_info is)) (λ is. absurd (no_dump is))

-- words for which `clap` found no command are none
pub none_found : (words : List Text) → subcommand_of program words ≡ None → IsNoCommand words
none_found words none =
    let never : (name : Text) (rows : List Row) → IsGiven words name rows → ⊥ = λ name rows given. let clash : None ≡ Some (name, rows) = sym none ∙ given.command in absurd cc in
    record {
      no_create = λ c is. never _ is.0 is.1;
      no_exec = λ e is. never _ is.0 is.1;
      no_recover = λ r is. never _ is.0 is.1;
      no_check = λ c is. never _ is.0 is.1;
      no_info = λ pool is. never _ is.0 is.1;
      no_dump = λ pool is. never _ is.0 is.1;
    }

free : is_simple_and_free program ≡ true
unfolding clap_on_literals
free = refl

simple : is_simple program ≡ true
unfolding clap_on_literals
simple = refl

-- what `clap` found of the words, where it took them
pub found : (built : Clap) (words : List Text) (m : ArgMatches) → IsApp built program → (is_simple_and_free (app_of built) ≡ true → fault_of (app_of built) words ≡ []) → HasMatchesOf (app_of built) words m
    → HasFound words m
found built words m is kinds matches =
    let fails : is_simple_and_free program ≡ true → fault_of program words ≡ [] = subst (λ (a : App). is_simple_and_free a ≡ true → fault_of a words ≡ []) is.is_app kinds in
    let same : HasMatchesOf program words m = subst (λ (a : App). HasMatchesOf a words m) is.is_app matches in
    (fails free, (same simple).1)

-- the kind of what `clap` says, where it did not take them
pub told_kind : (built : Clap) (words : List Text) (kind : ErrorKind) → IsApp built program → (is_simple_and_free (app_of built) ≡ true → (kind ≡ OutOfMemory) ⊎ IsAmong kind (fault_of (app_of built) words))
    → (kind ≡ OutOfMemory) ⊎ IsAmong kind (fault_of program words)
told_kind built words kind is kinds =
    (subst (λ (a : App). is_simple_and_free a ≡ true → (kind ≡ OutOfMemory) ⊎ IsAmong kind (fault_of a words)) is.is_app kinds) free

-- help or the version was asked for
help_kind : (words : List Text) (kind : ErrorKind) (text : String Global) → (kind ≡ OutOfMemory) ⊎ IsAmong kind (fault_of program words) → IsHelpOf kind (command.Help text) → IsAsked words (command.Help text)
help_kind words kind text (inl none) (inl help) = let clash : OutOfMemory ≡ DisplayHelp = sym none ∙ help in absurd cc
help_kind words kind text (inl none) (inr version) = let clash : OutOfMemory ≡ DisplayVersion = sym none ∙ version in absurd cc
help_kind words kind text (inr among) (inl help) = inl (subst (λ (k : ErrorKind). IsAmong k (fault_of program words)) help among)
help_kind words kind text (inr among) (inr version) = inr (subst (λ (k : ErrorKind). IsAmong k (fault_of program words)) version among)

pub help_asked : (words : List Text) (kind : ErrorKind) (asked : Command) → (kind ≡ OutOfMemory) ⊎ IsAmong kind (fault_of program words) → IsHelpOf kind asked → IsAsked words asked
help_asked words kind (command.Create create) has is = absurd is
help_asked words kind (command.Exec e) has is = absurd is
help_asked words kind (command.Recover r) has is = absurd is
help_asked words kind (command.Check check) has is = absurd is
help_asked words kind (command.Info pool) has is = absurd is
help_asked words kind (command.Dump pool) has is = absurd is
help_asked words kind (command.Help text) has is = help_kind words kind text has is

pub nothing_among : (kind : ErrorKind) (kinds : List ErrorKind) → IsAmong kind kinds → kinds ≡ [] → ⊥
nothing_among kind [] among none = among
nothing_among kind (k ∷ ks) among none = absurd cc

-- a fault that `clap` told is one of the words
pub faulty : (words : List Text) (kind : ErrorKind) → (kind ≡ OutOfMemory) ⊎ IsAmong kind (fault_of program words) → IsFault kind → IsFaulty words
faulty words kind (inl none) is = absurd (is.2 none)
faulty words kind (inr among) is =
    let never : (name : Text) (rows : List Row) → IsGiven words name rows → ⊥ = λ name rows given. nothing_among kind (fault_of program words) among given.no_fault in
    record {
      no_command = record {
        no_create = λ c is. never _ is.0 is.1;
        no_exec = λ e is. never _ is.0 is.1;
        no_recover = λ r is. never _ is.0 is.1;
        no_check = λ c is. never _ is.0 is.1;
        no_info = λ pool is. never _ is.0 is.1;
        no_dump = λ pool is. never _ is.0 is.1;
      };
      cause = inl (kind, among, is.0, is.1);
    }
