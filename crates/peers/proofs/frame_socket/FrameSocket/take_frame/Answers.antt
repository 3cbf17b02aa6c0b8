use Rattle.std.proofs.Common.{rules, ◌∙◌, ap, sym}
use Rattle.websocket.specs.Connection.{can_read}
use Rattle.peers.specs.FrameSocket.{Socket}
use Rattle.peers.proofs.ReadLemmas.{no-frame-of-nothing}
use Rattle.peers.proofs.frame_socket.FrameSocket.take_frame.Goals as goal

pub returns-then-can_read : goal.returns-then-can_read
returns-then-can_read g c =
    let none = c.if-has_no_input.ensures.0 (search rules) in
    let reads = ap (λ (v : Socket g.row.S.Denot). can_read v.conn.state) (sym c.self.view_is) ∙ sym c.if-can_read.ensures in
    no-frame-of-nothing g.S.Write.contents c.args.self.now none reads
