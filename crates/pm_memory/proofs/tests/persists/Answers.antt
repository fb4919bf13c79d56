use Rattle.std.proofs.Common.{◌≡◌, false, IsTrue, refl, sym, subst, rules}
use Rattle.std.proofs.lemmas.List.Quantifiers.{Any-push}
use Rattle.pm_view.specs.declared.change.Change.{Change}
use Rattle.pm_view.specs.Changes.{store_change}
use Rattle.pm_memory.specs.Changes.{lies_in, CanFlush}
use Rattle.pm_memory.specs.Solo.{Solo, after_store}
use Rattle.pm_memory.proofs.tests.persists.Goals as goal

pub flush-requires : goal.flush-requires
flush-requires g c =
    let once : c.store.new.self ≡ after_store c.in_ok-memory.memory 11 2 = search rules in
    subst (λ (m : Solo). CanFlush 1 m.changes) (sym once) (Any-push (λ (d : Change). IsTrue (lies_in 1 d) × (d.flushed ≡ false)) c.in_ok-memory.memory.changes (store_change 11 _ 2) (search rules, refl))
