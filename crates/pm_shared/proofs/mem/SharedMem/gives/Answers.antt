use Rattle.std.proofs.Common.{set, slice_index, ◌/◌, ◌^◌, ◌<◌, ◌-◌, not, eqb, bit_and, bit_or, ap, sym, ◌∙◌, subst, eq-eqb, ne_eqb}
use Rattle.std.specs.Int.{bit_not, w64}
use Rattle.pm_view.specs.LockWords.{reader_bit}
use mathlib.Core.Option.{none}
use prog.Atomic.{either}
use Rattle.pm_shared.specs.TableRule.{TableAllows}
use Rattle.pm_shared.specs.Plays.{gives_or_looks, GivenOrSeen}
use Rattle.atomic_table.specs.Table.{step}
use Rattle.pm_layout.specs.declared.shape.Shape.{Shape}
use Rattle.pm_layout.specs.Chunks.{words_of}
use Rattle.pm_view.specs.Steps.Step.{Give}
use Rattle.pm_world.specs.Memory.{LockWord}
use Rattle.pm_shared.specs.Placing.{start_of}
use Rattle.pm_shared.proofs.Asked.{asked, gave, in_shape, at_inside, number_is}
use Rattle.pm_view.specs.Claims.{locked}
use Rattle.pm_shared.specs.Placing.{memory_of}
use Rattle.pm_world.specs.Moves.{Moves}
use Rattle.pm_shared.proofs.Looks.{gives_or_sees, reader_moves, writer_moves}
use Rattle.pm_shared.proofs.mem.SharedMem.gives.Goals as goal

pub lock_at-at-requires : goal.lock_at-at-requires
lock_at-at-requires c = (in_shape _ _ _ _ c.requires.asks (λ (sh : Shape). c.args.line < words_of sh / 8) (c.requires.asks.lawful 0).allowed.inside)

pub swap_from-found-requires-clause-word : goal.swap_from-found-requires-clause-word
swap_from-found-requires-clause-word c = at_inside c.args.self.now.shape (LockWord c.args.line) c.lock_at-at.result c.lock_at-at.ensures (in_shape _ _ _ _ c.requires.asks (λ (sh : Shape). c.args.line < words_of sh / 8) (c.requires.asks.lawful 0).allowed.inside)

pub swap_from-found-requires-clause-step : goal.swap_from-found-requires-clause-step
swap_from-found-requires-clause-step c = subst (λ z. TableAllows c.args.self.now.table.shared.key c.args.seat.now.id c.args.seat.now.me c.lock_at-at.result (λ n. either (eqb n z) 0 n) (gives_or_looks (step 0 c.lock_at-at.result z 0 none) c.args.seat.now.me))
    (sym c.writer-writes.ensures) (gives_or_sees c.args.self.now c.args.lane c.args.seat.now.me c.args.line c.lock_at-at.result c.requires.asks c.requires.few (in_shape _ _ _ _ c.requires.asks (λ (sh : Shape). c.args.line < words_of sh / 8) (c.requires.asks.lawful 0).allowed.inside) c.lock_at-at.ensures c.args.seat.now.id)

pub and-requires-clause-word : goal.and-requires-clause-word
and-requires-clause-word c = at_inside c.args.self.now.shape (LockWord c.args.line) c.lock_at-at.result c.lock_at-at.ensures (in_shape _ _ _ _ c.requires.asks (λ (sh : Shape). c.args.line < words_of sh / 8) (c.requires.asks.lawful 0).allowed.inside)

pub and-requires-clause-step : goal.and-requires-clause-step
and-requires-clause-step c = asked c.args.self.now c.args.lane c.swap_from-found.new.seat.me (λ v st r. Give (st.word - start_of v.fixed.shape 1)) (step 0 c.lock_at-at.result (bit_not w64 (bit_or c.reader.result c.writer-writes.result)) 0 none) (λ r. Give c.args.line) (record { view = c.requires.asks.view; sees = ((subst (GivenOrSeen c.requires.asks.view (step 0 c.lock_at-at.result c.writer-writes.result 0 none) c.args.seat.now.me c.swap_from-found.result c.swap_from-found.new.seat.me) (ne_eqb c.swap_from-found.result c.writer-writes.result c.if-found-writes.false) (c.swap_from-found.ensures.told c.requires.asks.view c.requires.asks.sees)).0 ∙ c.requires.asks.sees); shape = c.requires.asks.shape; lane_is = c.requires.asks.lane_is; lawful = c.requires.asks.lawful })
    (λ v s l r. ap Give (number_is c.args.self.now.shape (LockWord c.args.line) c.lock_at-at.result c.lock_at-at.ensures (in_shape _ _ _ _ c.requires.asks (λ (sh : Shape). c.args.line < words_of sh / 8) (c.requires.asks.lawful 0).allowed.inside) v.fixed.shape s))
    c.swap_from-found.new.seat.id c.lock_at-at.result (λ n. bit_and n (bit_not w64 (bit_or c.reader.result c.writer-writes.result)))
    (λ words size B fits. subst (λ z. Moves c.args.lane (Give c.args.line) (memory_of c.args.self.now.shape words) (memory_of c.args.self.now.shape (set words c.lock_at-at.result (bit_and (slice_index words c.lock_at-at.result) (bit_not w64 z)))))
    (sym (ap (λ x. bit_or x c.writer-writes.result) c.reader.ensures ∙ ap (bit_or (reader_bit c.args.lane)) c.writer-writes.ensures))
    (reader_moves c.args.self.now c.args.lane c.args.seat.now.me c.args.line c.lock_at-at.result c.requires.asks c.requires.few (in_shape _ _ _ _ c.requires.asks (λ (sh : Shape). c.args.line < words_of sh / 8) (c.requires.asks.lawful 0).allowed.inside) c.lock_at-at.ensures words size ((ap (λ n. locked c.requires.asks.view.claims n) (sym (number_is c.args.self.now.shape (LockWord c.args.line) c.lock_at-at.result c.lock_at-at.ensures (in_shape _ _ _ _ c.requires.asks (λ (sh : Shape). c.args.line < words_of sh / 8) (c.requires.asks.lawful 0).allowed.inside) c.requires.asks.view.fixed.shape c.requires.asks.shape)) ∙ (subst (GivenOrSeen c.requires.asks.view (step 0 c.lock_at-at.result c.writer-writes.result 0 none) c.args.seat.now.me c.swap_from-found.result c.swap_from-found.new.seat.me) (ne_eqb c.swap_from-found.result c.writer-writes.result c.if-found-writes.false) (c.swap_from-found.ensures.told c.requires.asks.view c.requires.asks.sees)).1) ∙ ap not (eq-eqb (c.swap_from-found.result / 2 ^ 32) 0 c.if-found-eq0.true)) B))

pub store-requires-clause-word : goal.store-requires-clause-word
store-requires-clause-word c = at_inside c.args.self.now.shape (LockWord c.args.line) c.lock_at-at.result c.lock_at-at.ensures (in_shape _ _ _ _ c.requires.asks (λ (sh : Shape). c.args.line < words_of sh / 8) (c.requires.asks.lawful 0).allowed.inside)

pub store-requires-clause-step : goal.store-requires-clause-step
store-requires-clause-step c = asked c.args.self.now c.args.lane c.swap_from-found.new.seat.me (λ v st r. Give (st.word - start_of v.fixed.shape 1)) (step 0 c.lock_at-at.result 0 0 none) (λ r. Give c.args.line) (record { view = c.requires.asks.view; sees = ((subst (GivenOrSeen c.requires.asks.view (step 0 c.lock_at-at.result c.writer-writes.result 0 none) c.args.seat.now.me c.swap_from-found.result c.swap_from-found.new.seat.me) (ne_eqb c.swap_from-found.result c.writer-writes.result c.if-found-writes.false) (c.swap_from-found.ensures.told c.requires.asks.view c.requires.asks.sees)).0 ∙ c.requires.asks.sees); shape = c.requires.asks.shape; lane_is = c.requires.asks.lane_is; lawful = c.requires.asks.lawful })
    (λ v s l r. ap Give (number_is c.args.self.now.shape (LockWord c.args.line) c.lock_at-at.result c.lock_at-at.ensures (in_shape _ _ _ _ c.requires.asks (λ (sh : Shape). c.args.line < words_of sh / 8) (c.requires.asks.lawful 0).allowed.inside) v.fixed.shape s))
    c.swap_from-found.new.seat.id c.lock_at-at.result (λ n. 0)
    (λ words size B fits. writer_moves c.args.self.now c.args.lane c.args.seat.now.me c.args.line c.lock_at-at.result c.requires.asks c.requires.few (in_shape _ _ _ _ c.requires.asks (λ (sh : Shape). c.args.line < words_of sh / 8) (c.requires.asks.lawful 0).allowed.inside) c.lock_at-at.ensures words size ((ap (λ n. locked c.requires.asks.view.claims n) (sym (number_is c.args.self.now.shape (LockWord c.args.line) c.lock_at-at.result c.lock_at-at.ensures (in_shape _ _ _ _ c.requires.asks (λ (sh : Shape). c.args.line < words_of sh / 8) (c.requires.asks.lawful 0).allowed.inside) c.requires.asks.view.fixed.shape c.requires.asks.shape)) ∙ (subst (GivenOrSeen c.requires.asks.view (step 0 c.lock_at-at.result c.writer-writes.result 0 none) c.args.seat.now.me c.swap_from-found.result c.swap_from-found.new.seat.me) (ne_eqb c.swap_from-found.result c.writer-writes.result c.if-found-writes.false) (c.swap_from-found.ensures.told c.requires.asks.view c.requires.asks.sees)).1) ∙ ap not (ne_eqb (c.swap_from-found.result / 2 ^ 32) 0 c.if-found-eq0.false)) B fits)

pub returns-then-found-eq0-clause-made : goal.returns-then-found-eq0-clause-made
returns-then-found-eq0-clause-made c v e = gave c.args.self.now c.args.lane c.swap_from-found.new.seat.me (λ v st r. Give (st.word - start_of v.fixed.shape 1)) (step 0 c.lock_at-at.result (bit_not w64 (bit_or c.reader.result c.writer-writes.result)) 0 none) (λ r. Give c.args.line) (record { view = c.requires.asks.view; sees = ((subst (GivenOrSeen c.requires.asks.view (step 0 c.lock_at-at.result c.writer-writes.result 0 none) c.args.seat.now.me c.swap_from-found.result c.swap_from-found.new.seat.me) (ne_eqb c.swap_from-found.result c.writer-writes.result c.if-found-writes.false) (c.swap_from-found.ensures.told c.requires.asks.view c.requires.asks.sees)).0 ∙ c.requires.asks.sees); shape = c.requires.asks.shape; lane_is = c.requires.asks.lane_is; lawful = c.requires.asks.lawful })
    (λ v s l r. ap Give (number_is c.args.self.now.shape (LockWord c.args.line) c.lock_at-at.result c.lock_at-at.ensures (in_shape _ _ _ _ c.requires.asks (λ (sh : Shape). c.args.line < words_of sh / 8) (c.requires.asks.lawful 0).allowed.inside) v.fixed.shape s))
    c.and.result c.and.new.seat.me c.and.ensures.told v ((subst (GivenOrSeen c.requires.asks.view (step 0 c.lock_at-at.result c.writer-writes.result 0 none) c.args.seat.now.me c.swap_from-found.result c.swap_from-found.new.seat.me) (ne_eqb c.swap_from-found.result c.writer-writes.result c.if-found-writes.false) (c.swap_from-found.ensures.told c.requires.asks.view c.requires.asks.sees)).0 ∙ e)

pub returns-else-found-eq0-clause-made : goal.returns-else-found-eq0-clause-made
returns-else-found-eq0-clause-made c v e = gave c.args.self.now c.args.lane c.swap_from-found.new.seat.me (λ v st r. Give (st.word - start_of v.fixed.shape 1)) (step 0 c.lock_at-at.result 0 0 none) (λ r. Give c.args.line) (record { view = c.requires.asks.view; sees = ((subst (GivenOrSeen c.requires.asks.view (step 0 c.lock_at-at.result c.writer-writes.result 0 none) c.args.seat.now.me c.swap_from-found.result c.swap_from-found.new.seat.me) (ne_eqb c.swap_from-found.result c.writer-writes.result c.if-found-writes.false) (c.swap_from-found.ensures.told c.requires.asks.view c.requires.asks.sees)).0 ∙ c.requires.asks.sees); shape = c.requires.asks.shape; lane_is = c.requires.asks.lane_is; lawful = c.requires.asks.lawful })
    (λ v s l r. ap Give (number_is c.args.self.now.shape (LockWord c.args.line) c.lock_at-at.result c.lock_at-at.ensures (in_shape _ _ _ _ c.requires.asks (λ (sh : Shape). c.args.line < words_of sh / 8) (c.requires.asks.lawful 0).allowed.inside) v.fixed.shape s))
    c.store.result c.store.new.seat.me c.store.ensures.told v ((subst (GivenOrSeen c.requires.asks.view (step 0 c.lock_at-at.result c.writer-writes.result 0 none) c.args.seat.now.me c.swap_from-found.result c.swap_from-found.new.seat.me) (ne_eqb c.swap_from-found.result c.writer-writes.result c.if-found-writes.false) (c.swap_from-found.ensures.told c.requires.asks.view c.requires.asks.sees)).0 ∙ e)

pub returns-then-found-writes-clause-made : goal.returns-then-found-writes-clause-made
returns-then-found-writes-clause-made c v e = gave c.args.self.now c.args.lane c.args.seat.now.me (λ v st r. Give (st.word - start_of v.fixed.shape 1)) (step 0 c.lock_at-at.result c.writer-writes.result 0 none) (λ r. Give c.args.line) c.requires.asks
    (λ v s l r. ap Give (number_is c.args.self.now.shape (LockWord c.args.line) c.lock_at-at.result c.lock_at-at.ensures (in_shape _ _ _ _ c.requires.asks (λ (sh : Shape). c.args.line < words_of sh / 8) (c.requires.asks.lawful 0).allowed.inside) v.fixed.shape s))
    c.swap_from-found.result c.swap_from-found.new.seat.me (λ w q. subst (GivenOrSeen w (step 0 c.lock_at-at.result c.writer-writes.result 0 none) c.args.seat.now.me c.swap_from-found.result c.swap_from-found.new.seat.me) (eq-eqb c.swap_from-found.result c.writer-writes.result c.if-found-writes.true) (c.swap_from-found.ensures.told w q)) v e
