use Rattle.std.proofs.Common.{[], ◌/◌, ◌<◌, length, All, sym, ◌∙◌, ap, subst}
use Rattle.std.specs.Option.{option_to_list}
use Rattle.std.proofs.lemmas.List.Elements.{All-head}
use Rattle.pm_record.specs.Redo.{redo_of}
use Rattle.pm_record.specs.declared.redo.Redo.{Redo}
use Rattle.pm_image.specs.Logs.{entry_pair}
use Rattle.pm_reopen.specs.Running.{Halts, Makes}
use Rattle.pm_reopen.proofs.Making.{makes_none, ran_error}
use Rattle.pm_reopen.proofs.Parts.{entry_calls, entry_of_none, entry_of_one}
use Rattle.pm_reopen.proofs.writing.apply_entry.Goals as goal

pub change-requires-clause-word : goal.change-requires-clause-word
change-requires-clause-word c =
    All-head (λ (e : Redo). e.place / 8 < length c.args.mem.now.words) c.in-Some.one []
    (subst (All (λ (e : Redo). e.place / 8 < length c.args.mem.now.words)) (ap option_to_list (sym c.entry.ensures ∙ c.in-Some.is)) c.requires.inside)

pub returns-in_err-change-in-Some : goal.returns-in_err-change-in-Some
returns-in_err-change-in-Some c =
    ran_error c.args.mem.now c.change.new.mem (entry_calls c.args.image.now c.args.lane c.args.i) c.from_residual.result c.from_residual.ensures.0
    (subst (Halts c.args.mem.now c.change.new.mem) (entry_of_one (redo_of (entry_pair c.args.image.now c.args.lane c.args.i)) c.in-Some.one (sym c.entry.ensures ∙ c.in-Some.is)) c.in_err-change-in-Some.ensures)

pub returns-in_ok-change-in-Some : goal.returns-in_ok-change-in-Some
returns-in_ok-change-in-Some c =
    subst (Makes c.args.mem.now c.change.new.mem) (entry_of_one (redo_of (entry_pair c.args.image.now c.args.lane c.args.i)) c.in-Some.one (sym c.entry.ensures ∙ c.in-Some.is)) c.in_ok-change-in-Some.ensures

pub returns-in-None : goal.returns-in-None
returns-in-None c =
    subst (Makes c.args.mem.now c.args.mem.now) (entry_of_none (redo_of (entry_pair c.args.image.now c.args.lane c.args.i)) (sym c.entry.ensures ∙ c.in-None.is)) (makes_none c.args.mem.now)
