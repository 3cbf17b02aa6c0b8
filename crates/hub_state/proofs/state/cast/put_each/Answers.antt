use Rattle.std.proofs.Common.{rules, arith, ◌≡◌, ◌∙◌, ◌<◌, ◌++◌, [], ◌∷◌, length, get_or, take, false, true, nat_eq}
use Rattle.std.specs.HashMap.{get}
use Rattle.std.specs.Arc.{arc_value}
use Rattle.journal.specs.Casting.{is_full_in}
use Rattle.journal.specs.Fields.{with_entry}
use Rattle.hub_state.specs.Changes.{ChangesClient, SameClients}
use Rattle.hub_state.proofs.PutsLemmas.{taken-back, IsPut, put-one, miss-one}
use Rattle.hub_state.proofs.state.cast.put_each.Goals as goal
use Rattle.hub_state.proofs.state.cast.put_each.Goals.{in-Ok-true, in-Ok-false, in_default-via-in-Ok-false+else-is_ok, in_default-via-in_default}

pub returns-in_default-clause-err : goal.returns-in_default-clause-err
returns-in_default-clause-err c =
    let same : SameClients c.loop-socket.clients c.put_if_it_fits.new.clients = elim c.in_default.branch [
      | in_default-via-in-Ok-false+else-is_ok w ↦ search rules
      | in_default-via-in_default w ↦ search rules
    ] in
    taken-back (get nat_eq c.args.clients.now) (get nat_eq c.loop-socket.clients) (get nat_eq c.put_if_it_fits.new.clients) (get nat_eq c.take_all_back.new.clients)
    _ c.deref-in_default.result.now c.loop-socket.invariant.put same (c.deref-in_default.ensures.value ∙ c.loop-socket.invariant.told) c.take_all_back.ensures

pub loop-socket-preserved : goal.loop-socket-preserved
loop-socket-preserved c =
    let find = get nat_eq c.args.clients.now in
    let mid = get nat_eq c.loop-socket.clients in
    let new = get nat_eq c.put_if_it_fits.new.clients in
    let e = arc_value c.args.entry.now in
    let ks = c.args.sockets.now in
    let k = c.socket-item.result in
    let i = c.loop-socket.socket-index in
    let low : i < length ks = omega arith in
    let is : k ≡ get_or ks i k = c.socket-item.is in
    let was : IsPut find e (take i ks) c.loop-socket.reached.items c.loop-socket.missing.items mid =
    (c.loop-socket.invariant.told, c.loop-socket.invariant.missed, c.loop-socket.invariant.put) in
    elim c.if-put_if_it_fits.branch [
      | in-Ok-true w ↦
          let fits : is_full_in mid e k.client ≡ false = search rules in
          let one : ChangesClient (with_entry e) k.client c.loop-socket.clients c.put_if_it_fits.new.clients = search rules in
          let now = put-one find e ks i k low is c.requires.apart _ _ mid was new fits one in
          let reached : c.if-put_if_it_fits.reached.items ≡ c.loop-socket.reached.items ++ k.client ∷ [] = search rules in
          let missing : c.if-put_if_it_fits.missing.items ≡ c.loop-socket.missing.items = search rules in
          record { told = reached ∙ now.0; missed = missing ∙ now.1; put = now.2; few = rw w.reached-is (omega arith); places = rw w.reached-is (omega arith) }
      | in-Ok-false w ↦
          let full : is_full_in mid e k.client ≡ true = search rules in
          let same : SameClients c.loop-socket.clients c.put_if_it_fits.new.clients = search rules in
          let now = miss-one find e ks i k low is c.requires.apart _ _ mid was new full same in
          let reached : c.if-put_if_it_fits.reached.items ≡ c.loop-socket.reached.items = search rules in
          let missing : c.if-put_if_it_fits.missing.items ≡ c.loop-socket.missing.items ++ k.sid ∷ [] = search rules in
          record { told = reached ∙ now.0; missed = missing ∙ now.1; put = now.2; few = rw w.reached-is (omega arith); places = rw w.reached-is (omega arith) }
    ]
