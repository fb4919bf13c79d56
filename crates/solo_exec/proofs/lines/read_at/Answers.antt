use Rattle.std.proofs.Common.{Err, ⊎_elim, ◌≡◌, refl, ap, sym, ◌∙◌, subst, ◌++◌, ◌∷◌, [], false, ℕ, List, length, rules}
use Rattle.solo_crash.specs.CallBlocks.{IsOldIn}
use Rattle.solo_crash.specs.Operations.{IsMade}
use Rattle.solo_memory.specs.Solo.{Sees, Solo}
use Rattle.pm_objects.specs.declared.calls.Operation.TheVariants as operation
use Rattle.pm_objects.specs.declared.history.Value.TheVariants.{Bytes}
use Rattle.solo_transaction.specs.AnyRanges.{IsRefusedFor, IsStoppedRefusing}
use Rattle.solo_transaction.specs.AtWork.{IsAtWorkWith}
use Rattle.solo_transaction.specs.NewRanges.{HasReadNew}
use Rattle.solo_tx.specs.Calls.{HasLooked}
use Rattle.solo_tx.specs.Ranges.{HasReadRange, KnowsRange, reads_range}
use Rattle.solo_view.specs.Views.{after_all}
use Rattle.solo_world.specs.declared.lane.Lane.{Lane}
use Rattle.solo_exec.specs.Replies.{Values}
use Rattle.solo_exec.specs.Progress.{IsAtLine}
use Rattle.solo_exec.proofs.AddAndWrite.{ends_so, given_up, unrefused}
use Rattle.solo_exec.proofs.ReadLine.{front_is, read_cut, read_done, read_is, read_new_done, read_not_spent}
use Rattle.solo_exec.specs.Letters.{KeepsLetters}
use Rattle.solo_exec.proofs.GivenLetters.{kept_as_they_are, letters_one}
use Rattle.solo_exec.proofs.lines.read_at.Goals as goal

pub returns-in_ok-push-in-Ok-clause-done : goal.returns-in_ok-push-in-Ok-clause-done
returns-in_ok-push-in-Ok-clause-done c o first actions front a =
    let old = c.args.lane.now in
    let new = c.read.new.lane in
    let blocks = c.args.blocks.now in
    let values = c.args.values.now.items in
    let place = c.id_of.result in
    let off = c.args.range.1 in
    let len = c.args.range.2 in
    let names = c.args.names in
    let bytes : List ℕ = c.read.new.into in
    let long : length c.as_mut_slice.result.now ≡ len = search rules in
    let count : c.in_ok-bytes.bytes.len ≡ length c.as_mut_slice.result.now = search rules in
    let filled : c.from_vec.result ≡ bytes = c.from_vec.ensures ∙ front_is c.in_ok-bytes.bytes.len bytes _ (count ∙ sym c.in-Ok.ensures.as_long) in
    let pushed : values ++ (c.args.said.now.line, Bytes bytes) ∷ [] ≡ c.push.new.self.items = sym (c.in_ok-push-in-Ok.ensures.items ∙ ap (λ (bs : List ℕ). values ++ (c.args.said.now.line, Bytes bs) ∷ []) filled) in
    let e = c.in-Ok.ensures in
    let level = ap (λ (l : Lane Solo). l.level) e.lane ∙ a.level in
    let locks = ap (λ (l : Lane Solo). l.locks) e.lane in
    subst (λ (vs : Values). IsAtLine o first new blocks actions names (front ++ c.args.said.now ∷ []) vs) pushed
    (⊎_elim
    (λ (is_old : IsOldIn a.view place.off).
    read_done o first old blocks actions names front values a new c.args.said.now c.args.range.0 place c.id_of.ensures off len c.requires.is_said bytes
    (subst (λ (n : ℕ). HasLooked a.view (λ w. KnowsRange w place off n false × HasReadRange o Sees new w place off n bytes × IsAtWorkWith o Sees new blocks (after_all w (reads_range place off n bytes w)))) long (e.found o a.view a.works is_old)) level locks)
    (λ (made : IsMade a.view place).
    read_new_done o first old blocks actions names front values a new c.args.said.now c.args.range.0 place c.id_of.ensures off len c.requires.is_said bytes
    (subst (λ (n : ℕ). HasReadNew o Sees new blocks a.view place off n bytes) long (e.made o a.view a.works made)) level locks)
    (e.either o a.view a.works))

pub returns-in-Err-clause-ends : goal.returns-in-Err-clause-ends
returns-in-Err-clause-ends c o first actions front rest a =
    let old = c.args.lane.now in
    let new = c.read.new.lane in
    let blocks = c.args.blocks.now in
    let r = c.in-Err.why in
    let values = c.args.values.now.items in
    let place = c.id_of.result in
    let off = c.args.range.1 in
    let len = c.args.range.2 in
    let names = c.args.names in
    let long : length c.as_mut_slice.result.now ≡ len = search rules in
    let none = unrefused old a.works.work.unstopped a.level a.works.work.works in
    let is = c.requires.is_said in
    let e = c.in-Err.ensures in
    let same = read_is o first old blocks actions names front values a new c.args.said.now c.args.range.0 place c.id_of.ensures off len is in
    rw c.not_done.ensures
    (ends_so o first old blocks actions names front values a new c.args.said.now blocks rest values r (read_not_spent r (e.causes none)) refl
    (λ goes.
    let t = subst (λ (n : ℕ). HasLooked a.view (IsRefusedFor Sees new old.records.items (operation.Read place off n) (record { id = place; off = off; len = n }) r)) long (e.given_up none goes o a.view a.works) in
    given_up o first old blocks actions names front values a new c.args.said.now (operation.Read place off len) same r t.loads t.view t.looks t.working t.holds.ended (e.given_up_lane none goes) (λ asked clashes. let clash = sym is ∙ clashes in cc) refl tt rest)
    (λ stops. read_cut o first old blocks actions names front values a new c.args.said.now c.args.range.0 place c.id_of.ensures off len is rest
    (subst (λ (n : ℕ). HasLooked a.view (IsStoppedRefusing Sees new old.records.items (operation.Read place off n) (record { id = place; off = off; len = n }))) long (e.stopped none stops o a.view a.works))))

pub returns-in_ok-push-in-Ok-clause-letters : goal.returns-in_ok-push-in-Ok-clause-letters
returns-in_ok-push-in-Ok-clause-letters c =
    subst (λ (vs : Values). KeepsLetters (c.args.said.now ∷ []) c.args.values.now.items vs) (sym c.in_ok-push-in-Ok.ensures.items) (letters_one c.args.said.now c.args.values.now.items _)

pub returns-in-Err-clause-letters : goal.returns-in-Err-clause-letters
returns-in-Err-clause-letters c = kept_as_they_are {T = Unit {0}} (c.args.said.now ∷ []) c.args.values.now.items (Err c.not_done.result)
