-- The meaning of a whole message of the network: the transport is read whole before the container, the container
-- before the question of the identity.
use Rattle.std.specs.Prelude.{ℕ, cond, List, length, Some, None, Ok, Err, Option, Result, ◌==◌}
use Rattle.dl_nas.specs.declared.elements.Seen.{Seen}
use Rattle.dl_nas.specs.declared.elements.Found.{Found}
use Rattle.dl_nas.specs.declared.transport.TransportFault.{TransportFault}
use Rattle.dl_nas.specs.declared.container.Inner.{Inner}
use Rattle.dl_nas.specs.declared.container.ContainerFault.{ContainerFault}
use Rattle.dl_nas.specs.declared.content.Content.TheVariants.{ReleaseCommand}
use Rattle.dl_nas.specs.declared.message.Layer.{Layer}
use Rattle.dl_nas.specs.declared.message.Layer.TheVariants as layer
use Rattle.dl_nas.specs.declared.message.Received.{Received}
use Rattle.dl_nas.specs.declared.message.MessageFault.{MessageFault}
use Rattle.dl_nas.specs.declared.message.MessageFault.TheVariants.{Transport, Container, Identity}
use Rattle.dl_nas.specs.Transport.{outer_of, payload_of, transport_number, transport_place}
use Rattle.dl_nas.specs.Container.{container_of, octet_of, container_number, container_place}

-- The outer element 12 is missing, or names another identity than the container: the place of that fault.
abbrev pub identity_fault : Option Seen → ℕ → ℕ → Option ℕ
identity_fault None identity end = Some end
identity_fault (Some s) identity end = cond (s.octet == identity) None (Some s.place)

-- 18, or what was read.
abbrev pub unless_at : Option ℕ → Received → Result Received MessageFault
unless_at None r = Ok r
unless_at (Some place) r = Err (Identity place)

-- What the container and the outer elements say together; the message ends at `end`.
abbrev pub agreed : Found → Inner → ℕ → Result Received MessageFault
agreed f c end = unless_at (identity_fault f.identity c.identity end) (record {
  identity = c.identity;
  pti = c.pti;
  content = c.content;
  mm_cause = octet_of f.cause;
  outer_timer = octet_of f.timer;
})

-- The upper fault carries the lower one whole.
abbrev pub contained : Found → ℕ → Result Inner ContainerFault → Result Received MessageFault
contained f end (Ok c) = agreed f c end
contained f end (Err e) = Err (Container e)

-- The container, if the outer layer is right.
abbrev pub transported : List ℕ → Result Found TransportFault → Result Received MessageFault
transported xs (Ok f) = contained f (length xs) (container_of (payload_of xs) 6)
transported xs (Err e) = Err (Transport e)

-- What a list of octets says as a message of the network, or what is wrong with it.
abbrev pub received : List ℕ → Result Received MessageFault
received xs = transported xs (outer_of xs)

-- The number of a fault: that of its layer, or 18, is 12 there and equal to the inner identity?
abbrev pub number_of : MessageFault → ℕ
number_of (Transport e) = transport_number e
number_of (Container e) = container_number e
number_of (Identity p) = 18

-- The layer of a fault; 18 is the transport's.
abbrev pub layer_of : MessageFault → Layer
layer_of (Transport e) = layer.Transport
layer_of (Container e) = layer.Container
layer_of (Identity p) = layer.Transport

-- The place of a fault.
abbrev pub place_of : MessageFault → ℕ
place_of (Transport e) = transport_place e
place_of (Container e) = container_place e
place_of (Identity p) = p

-- What the worked octets 7E 00 68 01 00 08 2E 05 00 D3 1A 37 01 A5 12 05 say.
abbrev pub worked_received : Received
worked_received = record {
  identity = 5;
  pti = 0;
  content = ReleaseCommand 0x1A (Some 0xA5);
  mm_cause = None;
  outer_timer = None;
}
