use Rattle.std.proofs.Common.{◌≡◌, false, refl}
use Rattle.tcp_streams.proofs.inbox.Inbox.put.Goals as goal

pub returns-then-slept : goal.returns-then-slept
returns-then-slept g c =
    let awake : c.deref_mut-2.result.now.asleep ≡ false = rw c.deref_mut-2.ensures.value c.rouse-slept.ensures.awake in
    (_, _, awake, record { shown = c.deref_mut-2.result; shows = refl; left = _; met = c.put-done.ensures; leaves = refl })

pub returns-else-slept : goal.returns-else-slept
returns-else-slept g c =
    let awake : c.deref_mut-2.result.now.asleep ≡ false = rw c.deref_mut-2.ensures.value c.rouse-slept.ensures.awake in
    (_, _, awake, record { shown = c.deref_mut-2.result; shows = refl; left = _; met = c.put-done.ensures; leaves = refl })
