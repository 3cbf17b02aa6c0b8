use Rattle.std.proofs.Common.{arith, length-append, nat_eq}
use Rattle.std.specs.HashMap.{get}
use Rattle.journal.proofs.CastLemmas.{put-more, has-place, split-more}
use Rattle.hub_state.proofs.PutsLemmas.{all-back}
use Rattle.hub_state.proofs.state.cast.put_messages.Goals as goal

pub loop-message-preserved : goal.loop-message-preserved
loop-message-preserved c = record {
  clients = rw (← c.message.view_is) (put-more _ _ _ c.loop-message.yielded _ c.loop-message.invariant.clients c.in_default.ensures.ok);
  split = split-more _ c.loop-message.yielded _ c.next.new.self.rest.items c.in-Some.message c.loop-message.invariant.split c.in-Some.ensures.steps.0;
  number = omega (arith, c.loop-message.invariant.number, length-append c.loop-message.yielded);
}

pub put_entry-requires : goal.put_entry-requires
put_entry-requires c =
    let once = rw (c.loop-message.invariant.split, c.in-Some.ensures.steps.0, ← c.message.view_is) at c.requires.apart in
    let places = rw (c.loop-message.invariant.split, c.in-Some.ensures.steps.0, ← c.message.view_is) at c.requires.places in
    has-place _ _ _ c.loop-message.yielded c.next.new.self.rest.items c.loop-message.invariant.clients once places

pub returns-in-Err-clause-err : goal.returns-in-Err-clause-err
returns-in-Err-clause-err c =
    all-back (get nat_eq c.args.clients.now) (get nat_eq c.loop-message.clients) (get nat_eq c.put_entry.new.clients) (get nat_eq c.take_all_back.new.clients)
    c.loop-message.yielded c.loop-message.message-iterator.rest.items c.args.messages.items c.args.receivers.now c.loop-message.put
    c.loop-message.invariant.clients c.in-Err.ensures.err c.loop-message.invariant.split c.loop-message.invariant.number c.requires.receivers c.take_all_back.ensures
