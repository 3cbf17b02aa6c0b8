use Rattle.std.proofs.Common.{inl, inr, [], ◌++◌, None, refl, sym, subst}
use Rattle.peers.specs.FrameSocket.{Socket}
use Rattle.peers.specs.Incoming.{HasRead, GivesNoMore, Steps}
use Rattle.peers.proofs.ReadLemmas.{read-more, read-none, same-without-frame}
use Rattle.peers.proofs.frame_socket.FrameSocket.read.Goals as goal

pub loop-init : goal.loop-init
loop-init g c = ([], read-none g.S.Read.remaining c.args.self.now)

pub loop-preserved : goal.loop-preserved
loop-preserved g c =
    let was = c.loop.invariant in
    let same = same-without-frame g.S.Write.contents c.loop.self c.take_frame.new.self c.in_default.ensures in
    let more = c.in_default-fill.ensures.filled in
    (was.0 ++ more.0, read-more g.S.Read.remaining c.args.self.now c.loop.self c.fill.new.self was.0 more.0 was.1 (subst (λ (v : Socket g.row.S.Denot). HasRead g.S.Read.remaining more.0 v c.fill.new.self) same more.1))

pub returns-in-Some : goal.returns-in-Some
returns-in-Some g c =
    let was = c.loop.invariant in
    record { got = was.0; between = c.loop.self; read = was.1; brought = inl c.in-Some.ensures }

pub returns-in-Err : goal.returns-in-Err
returns-in-Err g c =
    let was = c.loop.invariant in
    let same = same-without-frame g.S.Write.contents c.loop.self c.take_frame.new.self c.in_default.ensures in
    let none = subst (λ (v : Socket g.row.S.Denot). Steps g.S.Write.contents c.loop.self None v) same c.in_default.ensures in
    let ended = subst (λ (v : Socket g.row.S.Denot). GivesNoMore g.S.Read.remaining v c.in-Err.came c.fill.new.self) same c.in-Err.ensures.no_more in
    record { got = was.0; between = c.loop.self; read = was.1; brought = inr (none, ended) }

pub returns-in-Some-take_frame : goal.returns-in-Some-take_frame
returns-in-Some-take_frame g c =
    let was = c.loop.invariant in
    record { got = was.0; between = c.loop.self; read = was.1; brought = inl c.in-Some-take_frame.ensures }

pub returns-in-None : goal.returns-in-None
returns-in-None g c =
    let was = c.loop.invariant in
    let same = same-without-frame g.S.Write.contents c.loop.self c.take_frame-2.new.self c.in-None.ensures in
    let none = subst (λ (v : Socket g.row.S.Denot). Steps g.S.Write.contents c.loop.self None v) same c.in-None.ensures in
    let rests = subst (λ (v : Socket g.row.S.Denot). HasRead g.S.Read.remaining [] c.loop.self v) (sym same) (read-none g.S.Read.remaining c.loop.self) in
    record { got = was.0; between = c.loop.self; read = was.1; brought = inr (none, inl (refl, rests)) }
