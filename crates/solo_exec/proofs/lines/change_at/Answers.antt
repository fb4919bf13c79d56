use Rattle.std.proofs.lemmas.Result.{IfErr-weaker, on_ok_weaker}
use Rattle.std.proofs.Common.{◌∷◌, []}
use Rattle.solo_exec.proofs.GivenLetters.{kept_as_they_are}
use Rattle.solo_exec.proofs.lines.change_at.Goals as goal

pub returns-in-Alloc-clause-done : goal.returns-in-Alloc-clause-done
returns-in-Alloc-clause-done c =
    on_ok_weaker c.make_at.result (λ done o first front a. done o first c.args.pending.now c.args.names front c.in-Alloc.letter a c.in-Alloc.is) c.make_at.ensures.done

pub returns-in-Alloc-clause-ends : goal.returns-in-Alloc-clause-ends
returns-in-Alloc-clause-ends c =
    IfErr-weaker c.make_at.result _ _ (λ why ends o first front rest a. ends o first c.args.pending.now c.args.names front rest c.in-Alloc.letter a c.in-Alloc.is) c.make_at.ensures.ends

pub returns-in-Add-clause-letters : goal.returns-in-Add-clause-letters
returns-in-Add-clause-letters c = kept_as_they_are (c.args.said.now ∷ []) c.args.values.now.items c.add_at.result

pub returns-in-Write-clause-letters : goal.returns-in-Write-clause-letters
returns-in-Write-clause-letters c = kept_as_they_are (c.args.said.now ∷ []) c.args.values.now.items c.write_at.result

pub returns-in-Free-clause-letters : goal.returns-in-Free-clause-letters
returns-in-Free-clause-letters c = kept_as_they_are (c.args.said.now ∷ []) c.args.values.now.items c.free_at.result

pub returns-in-Add-clause-done : goal.returns-in-Add-clause-done
returns-in-Add-clause-done c =
    on_ok_weaker c.add_at.result (λ done o first front a. done o first c.args.pending.now front c.args.values.now.items a) c.add_at.ensures.done

pub returns-in-Add-clause-ends : goal.returns-in-Add-clause-ends
returns-in-Add-clause-ends c =
    IfErr-weaker c.add_at.result _ _ (λ why ends o first front rest a. ends o first c.args.pending.now front rest c.args.values.now.items a) c.add_at.ensures.ends

pub returns-in-Write-clause-done : goal.returns-in-Write-clause-done
returns-in-Write-clause-done c =
    on_ok_weaker c.write_at.result (λ done o first front a. done o first c.args.pending.now front c.args.values.now.items a) c.write_at.ensures.done

pub returns-in-Write-clause-ends : goal.returns-in-Write-clause-ends
returns-in-Write-clause-ends c =
    IfErr-weaker c.write_at.result _ _ (λ why ends o first front rest a. ends o first c.args.pending.now front rest c.args.values.now.items a) c.write_at.ensures.ends

pub returns-in-Free-clause-done : goal.returns-in-Free-clause-done
returns-in-Free-clause-done c =
    on_ok_weaker c.free_at.result (λ done o first front a. done o first c.args.pending.now front c.args.values.now.items a) c.free_at.ensures.done

pub returns-in-Free-clause-ends : goal.returns-in-Free-clause-ends
returns-in-Free-clause-ends c =
    IfErr-weaker c.free_at.result _ _ (λ why ends o first front rest a. ends o first c.args.pending.now front rest c.args.values.now.items a) c.free_at.ensures.ends

pub returns-in-Read-clause-done : goal.returns-in-Read-clause-done
returns-in-Read-clause-done c = on_ok_weaker c.read_at.result (λ done o first front a. done o first c.args.pending.now front a) c.read_at.ensures.done

pub returns-in-Read-clause-ends : goal.returns-in-Read-clause-ends
returns-in-Read-clause-ends c =
    IfErr-weaker c.read_at.result _ _ (λ why ends o first front rest a. ends o first c.args.pending.now front rest a) c.read_at.ensures.ends
