-- Each return by the tests before it. Assumes nothing.
use Rattle.wormhole.proofs.Serving.{front_within}
use Rattle.wormhole.proofs.Leading.{lead_unready, lead_shut, lead_free}
use Rattle.wormhole.proofs.packets.Packet.may_lead.Goals as goal

pub is_ready-requires : goal.is_ready-requires
is_ready-requires c = search front_within

pub returns-then-not-is_ready : goal.returns-then-not-is_ready
returns-then-not-is_ready c = search lead_unready

pub returns-then-not-is_open : goal.returns-then-not-is_open
returns-then-not-is_open c = search lead_shut

pub returns : goal.returns
returns c = search lead_free
