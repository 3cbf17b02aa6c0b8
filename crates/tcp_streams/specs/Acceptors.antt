-- Who accepts connections, and to which loops they are dealt.
use Rattle.std.specs.Prelude.{◌≡◌, ◌⊎◌, ℕ, ◌+◌, ◌-◌, ◌*◌, ◌^◌, ◌≤◌, min, option_map, IfSome, List, [], ◌∷◌, ◌++◌, alloc_error}
use Rattle.std.specs.declared.net.ip_addr.IpAddr.{IpAddr}
use Rattle.std.specs.declared.net.ip_addr.IpAddr.TheVariants.{V4, V6}
use Rattle.std.specs.Net.Addr.{ipv4_bits, ipv6_bits}
use Rattle.loop_rules.specs.declared.dealing.Dealing.{Dealing}
use Rattle.loop_rules.specs.Dealings.{accepted, dealt, later_of, undealt}
use Rattle.settings.specs.declared.settings.Settings.{Settings}
use Rattle.settings.specs.Wrong.{aides}
use Rattle.tcp_streams.specs.declared.acceptor.Acceptor.{Acceptor}
use Rattle.tcp_streams.specs.declared.fault.ServerFault.{ServerFault}
use Rattle.tcp_streams.specs.declared.fault.ServerFault.TheVariants.{Memory, Listening}

-- an address as a number, that of IPv4 behind the prefix ::ffff:0:0/96 (RFC 4291, section 2.5.5.2)
abbrev pub number_of : IpAddr → ℕ
number_of (V4 address) = 0xffff * 2 ^ 32 + ipv4_bits address
number_of (V6 address) = ipv6_bits address

-- there was no memory, or a device failed as the server began to listen
abbrev pub IsOfListening : ServerFault → Type 0
IsOfListening fault = (fault ≡ Memory alloc_error) ⊎ (fault ≡ Listening)

-- how it deals
abbrev pub dealing_of : Acceptor → Dealing
dealing_of a = a.dealing

-- nothing was accepted yet; it goes by the settings, and waits for the loops, the keeper and the warden
pub record Begins (s : Settings) (a : Acceptor) : Type 0 where
  pub dealing : a.dealing ≡ undealt s.connections s.hub.clients s.together
  pub refused : a.refused ≡ []
  pub workers : a.workers ≡ min (s.workers + aides s.warding) 18446744073709551615

-- one was accepted, and given to a loop where it had a place
abbrev pub DealsOne : (old new : Dealing) → Type 0
DealsOne old new = (new ≡ accepted old) ⊎ (new ≡ dealt (accepted old))

-- some were accepted, no more than there were to be, and no others were given
pub record Deals (old new : Dealing) : Type 0 where
  pub accepted : ℕ
  pub few : IfSome old.left (λ n. accepted ≤ n)
  pub left : new.left ≡ option_map (λ n. n - accepted) old.left
  pub given : new.given ≤ old.given + accepted
  pub most : new.most ≡ old.most
  pub together : new.together ≡ old.together

-- one more is kept, or none for want of memory
abbrev pub KeepsLater : {S : Type 0} → (old new : List S) → Type 0
KeepsLater {S} old new = (new ≡ later_of old) ⊎ ((s : S) × (new ≡ later_of old ++ s ∷ []))
