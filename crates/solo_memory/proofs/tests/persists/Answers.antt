use Rattle.std.proofs.Common.{◌≡◌, ℕ, ◌/◌, Bool, false, List, length, length-set, set, None, refl, sym, ap, ◌∙◌, subst, IsTrue, rules, arith}
use Rattle.std.proofs.lemmas.List.{length-replicate}
use Rattle.std.proofs.lemmas.List.Elements.{All-replicate}
use Rattle.std.proofs.lemmas.List.Quantifiers.{Any-push}
use Rattle.solo_view.specs.declared.change.Change.{Change}
use Rattle.solo_view.specs.Changes.{is_in_line, store_change}
use Rattle.solo_view.specs.Counts.{FlushesSome}
use Rattle.solo_memory.specs.Solo.{Solo, Sees, opened, after_store, view_of}
use Rattle.solo_memory.proofs.Unlocked.{sees_unlocked}
use Rattle.solo_memory.proofs.tests.persists.Goals as goal

pub persist-requires-clause-flush : goal.persist-requires-clause-flush
persist-requires-clause-flush g c =
    let twice : c.store-2.new.self ≡ after_store c.store.new.self 11 2 = search rules in
    subst (λ (m : Solo). FlushesSome 1 m.changes) (sym twice) (Any-push (λ (d : Change). IsTrue (is_in_line 1 d) × (d.flushed ≡ false)) c.store.new.self.changes (store_change 11 _ 2) (search rules, refl))

pub persist-requires-clause-seen : goal.persist-requires-clause-seen
persist-requires-clause-seen g c =
    let first : c.in_ok-memory.memory ≡ opened c.in_ok-words.words.items None = search rules in
    let once : c.store.new.self ≡ after_store c.in_ok-memory.memory 3 1 = search rules in
    let twice : c.store-2.new.self ≡ after_store c.store.new.self 11 2 = search rules in
    let now : Solo = after_store (after_store (opened c.in_ok-words.words.items None) 3 1) 11 2 in
    let is : c.store-2.new.self ≡ now = twice ∙ (ap (λ (m : Solo). after_store m 11 2) (once ∙ ap (λ (m : Solo). after_store m 3 1) first)) in
    let before : List ℕ = c.in_ok-words.words.items in
    let lines : length now.locks ≡ length now.words / 8 = length-replicate (length before / 8) 0 ∙ ap (λ (n : ℕ). n / 8) (sym (length-set (set before 3 1) 11 2 ∙ length-set before 3 1)) in
    let pages : length now.runs ≡ length now.words / 512 = length-replicate (length before / 512) 0 ∙ ap (λ (n : ℕ). n / 512) (sym (length-set (set before 3 1) 11 2 ∙ length-set before 3 1)) in
    (view_of now, subst (λ (m : Solo). Sees m (view_of now)) (sym is) (sees_unlocked now lines (All-replicate (λ (word : ℕ). word ≡ 0) _ 0 refl) (All-replicate (λ (taken : Bool). taken ≡ false) 32 false refl) (omega arith) (λ n none. cc) refl pages (length-replicate {A = ℕ} 32 0) (length-replicate {A = Bool} 32 false)))
