use Rattle.std.proofs.Common.{rules, take}
use Rattle.peers.proofs.frame_socket.FrameSocket.fill.Goals as goal

pub returns-else-is_err-clause-filled : goal.returns-else-is_err-clause-filled
returns-else-is_err-clause-filled g c = (take c.in-Ok.count c.read.new.buf, record { conn = search rules; input = search rules; taken = search rules })
