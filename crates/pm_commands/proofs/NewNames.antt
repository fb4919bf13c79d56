-- What stands under new names, and that no other name changes.
use Rattle.std.proofs.Common.{◌≡◌, ℕ, List, length, Option, Some, None, inl, inr, refl, sym, ◌∙◌, ap, subst}
use Rattle.std.proofs.Math.Seq.{take-length}
use Rattle.pm_options.specs.Asked.{IsAsked, check_asked, create_asked, exec_asked, recover_asked}
use Rattle.pm_options.specs.Words.{Check, Create, Exec, IsCheck, IsCreate, IsDump, IsExec, IsInfo, IsNoCommand, IsRecover, Recover}
use Rattle.pm_options.specs.declared.command.Command.{Command}
use Rattle.pm_options.specs.declared.command.Command.TheVariants as command
use Rattle.pm_shelf.specs.Outside.{Adds, Held, MayAddPart}
use Rattle.pm_commands.specs.Answers.{DidChange, MayChange}
use Rattle.pm_commands.specs.Checked.{MayAddMended}
use Rattle.pm_commands.specs.Created.{pool_bytes}
use Rattle.pm_commands.specs.Executed.{AddsPartOfRun, IsRunOf, MayAddRun}
use Rattle.pm_commands.specs.Recovered.{AddsPartOfRecovery, IsRecoveryOf, MayAddRecovery}
use Rattle.pm_commands.proofs.OneCommand.{only_check, only_create, only_dump, only_exec, only_info, only_recover}

-- a shelf that is as it was has nothing more
kept_part : (held : Option Held) (name bytes : List ℕ) → MayAddPart held held name bytes
kept_part None name bytes = tt
kept_part (Some held) name bytes = record { part = inl refl; others = λ other differs. refl }

pub nothing_added : (held after : Option Held) (name bytes : List ℕ) → after ≡ held → MayAddPart held after name bytes
nothing_added held after name bytes kept = subst (λ (new : Option Held). MayAddPart held new name bytes) (sym kept) (kept_part held name bytes)

-- the whole is a front of itself
pub adds_part : (old new : Option Held) (name bytes : List ℕ) → Adds old new name bytes → MayAddPart old new name bytes
adds_part None None name bytes added = tt
adds_part None (Some new) name bytes added = absurd added
adds_part (Some old) None name bytes added = absurd added
adds_part (Some old) (Some new) name bytes added = record {
  part = inr (added.absent, (length bytes, added.added ∙ ap Some (sym (take-length bytes))));
  others = added.others;
}

-- a run that was written whole, after its files were read
pub adds_run : (held read after : Option Held) (e : Exec) (written text : List ℕ) → read ≡ held → IsRunOf held e written text → Adds read after e.out written → AddsPartOfRun e held after
adds_run held read after e written text kept run added = record {
  written = written;
  text = text;
  run = run;
  part = subst (λ (old : Option Held). MayAddPart old after e.out written) kept (adds_part read after e.out written added);
}

-- a recovery that was written whole, after its file was read
pub adds_recovery : (held read after : Option Held) (r : Recover) (written text : List ℕ) → read ≡ held → IsRecoveryOf held r written text → Adds read after r.out written → AddsPartOfRecovery r held after
adds_recovery held read after r written text kept run added = record {
  written = written;
  text = text;
  run = run;
  part = subst (λ (old : Option Held). MayAddPart old after r.out written) kept (adds_part read after r.out written added);
}

-- what may change is what the words ask for
pub create_changes : (words : List (List ℕ)) (held after : Option Held) → DidChange words held after → (c : Create) → IsCreate words c → MayAddPart held after c.pool (pool_bytes c)
create_changes words held after (inl kept) c is = nothing_added held after c.pool (pool_bytes c) kept
create_changes words held after (inr did) c is =
    only_create words c is did.0 did.1 (λ asked. MayChange asked held after) (λ new. MayAddPart held after new.pool (pool_bytes new)) (λ other may. may) did.2

pub exec_changes : (words : List (List ℕ)) (held after : Option Held) → DidChange words held after → (e : Exec) → IsExec words e → MayAddRun e held after
exec_changes words held after (inl kept) e is = inl kept
exec_changes words held after (inr did) e is = only_exec words e is did.0 did.1 (λ asked. MayChange asked held after) (λ run. MayAddRun run held after) (λ other may. may) did.2

pub recover_changes : (words : List (List ℕ)) (held after : Option Held) → DidChange words held after → (r : Recover) → IsRecover words r → MayAddRecovery r held after
recover_changes words held after (inl kept) r is = inl kept
recover_changes words held after (inr did) r is = only_recover words r is did.0 did.1 (λ asked. MayChange asked held after) (λ recovery. MayAddRecovery recovery held after) (λ other may. may) did.2

pub check_changes : (words : List (List ℕ)) (held after : Option Held) → DidChange words held after → (c : Check) → IsCheck words c → MayAddMended c held after
check_changes words held after (inl kept) c is = inl kept
check_changes words held after (inr did) c is = only_check words c is did.0 did.1 (λ asked. MayChange asked held after) (λ check. MayAddMended check held after) (λ other may. may) did.2

pub info_keeps : (words : List (List ℕ)) (held after : Option Held) → DidChange words held after → (pool : List ℕ) → IsInfo words pool → after ≡ held
info_keeps words held after (inl kept) pool is = kept
info_keeps words held after (inr did) pool is = only_info words pool is did.0 did.1 (λ asked. MayChange asked held after) (λ name. after ≡ held) (λ other kept. kept) did.2

pub dump_keeps : (words : List (List ℕ)) (held after : Option Held) → DidChange words held after → (pool : List ℕ) → IsDump words pool → after ≡ held
dump_keeps words held after (inl kept) pool is = kept
dump_keeps words held after (inr did) pool is = only_dump words pool is did.0 did.1 (λ asked. MayChange asked held after) (λ name. after ≡ held) (λ other kept. kept) did.2

-- words that are no command change nothing
no_command_keeps : (words : List (List ℕ)) (held after : Option Held) (asked : Command) → IsAsked words asked → IsNoCommand words → MayChange asked held after → after ≡ held
no_command_keeps words held after (command.Create c) is none may = absurd (none.no_create (create_asked c) is)
no_command_keeps words held after (command.Exec e) is none may = absurd (none.no_exec (exec_asked e) is)
no_command_keeps words held after (command.Recover r) is none may = absurd (none.no_recover (recover_asked r) is)
no_command_keeps words held after (command.Check c) is none may = absurd (none.no_check (check_asked c) is)
no_command_keeps words held after (command.Info pool) is none may = may
no_command_keeps words held after (command.Dump pool) is none may = may
no_command_keeps words held after (command.Help text) is none may = may

pub none_keeps : (words : List (List ℕ)) (held after : Option Held) → DidChange words held after → IsNoCommand words → after ≡ held
none_keeps words held after (inl kept) none = kept
none_keeps words held after (inr did) none = no_command_keeps words held after did.0 did.1 none did.2
