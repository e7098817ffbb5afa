-- A tree of winners: each node has the lesser key of the two nodes below it.
use Rattle.std.specs.Prelude.{◌≡◌, ℕ, ◌+◌, ◌*◌, ◌/◌, ◌-◌, ◌^◌, ◌<◌, ◌≤◌, ◌≢◌, ◌⊎◌, get_or}
use Rattle.base_words.specs.declared.names.Key.{Key}
use Rattle.base_words.specs.Keys.{KeyAtMost}
use Rattle.judge_audit.specs.declared.least.Least.{Least}

-- the first key stands before the second one, or is it
abbrev pub AtMost : Key → Key → Type 0
AtMost one other = KeyAtMost one.vr one.queue other.vr other.queue

-- what stands at a place that there isn't
abbrev pub no_key : Key
no_key = record { vr = 0; queue = 0 }

-- the key above all others
abbrev pub last_key : Key
last_key = record { vr = 2 ^ 128 - 1; queue = 255 }

-- the key of a node
abbrev pub node_of : Least → ℕ → Key
node_of least node = get_or least.nodes node no_key

-- the key of a queue
abbrev pub key_of : Least → ℕ → Key
key_of least queue = node_of least (256 + queue)

-- a node has the lesser key of the two below it
pub record Wins (least : Least) (node : ℕ) : Type 0 where
  pub either : (node_of least node ≡ node_of least (2 * node)) ⊎ (node_of least node ≡ node_of least (2 * node + 1))
  pub left : AtMost (node_of least node) (node_of least (2 * node))
  pub right : AtMost (node_of least node) (node_of least (2 * node + 1))

-- each inner node wins, except perhaps one
abbrev pub WinsExcept : Least → ℕ → Type 0
WinsExcept least loser = (node : ℕ) → 1 ≤ node → node < 256 → node ≢ loser → Wins least node

-- each inner node wins
abbrev pub IsTree : Least → Type 0
IsTree least = (node : ℕ) → 1 ≤ node → node < 256 → Wins least node

-- a key is that of a queue
pub record IsAmong (least : Least) (key : Key) : Type 0 where
  pub queue : ℕ
  pub few : queue < 256
  pub is : key ≡ key_of least queue

-- on the way up from a changed queue each node wins, except the one above; the queue has its new key and the others have their old ones
pub record IsOnTheWay (old least : Least) (queue : ℕ) (key : Key) (node : ℕ) : Type 0 where
  pub some : 1 ≤ node
  pub within : node < 512
  pub wins : WinsExcept least (node / 2)
  pub this : key_of least queue ≡ key
  pub others : (other : ℕ) → other ≢ queue → key_of least other ≡ key_of old other
