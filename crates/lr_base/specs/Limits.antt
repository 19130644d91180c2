-- To be believed: how much of each thing there may be, in the program's constants. Each is pinned to its numeral by a
-- fact.
use Rattle.std.specs.Prelude.{◌≡◌, ◌+◌, ◌^◌, ℕ, refl}
use Rattle.lr_base.specs.declared.limits.TheConstants.{MOST_REPLICAS, MOST_CLIENTS, MOST_PARTS, LOG_ROOM, HELD_ROOM}
use Rattle.lr_base.specs.declared.limits.TheConstants.{ORDER_ROOM, MOST_SCRIPT_BYTES, LAST_NUMBER}

-- how many replicas a run has at the most
-- for example: 9
abbrev pub most_replicas : ℕ
most_replicas = MOST_REPLICAS

pub most_replicas-is : most_replicas ≡ 9
most_replicas-is = refl

-- how many clients a run has at the most
-- for example: 64
abbrev pub most_clients : ℕ
most_clients = MOST_CLIENTS

pub most_clients-is : most_clients ≡ 64
most_clients-is = refl

-- how many parts a stamp has at the most: one for each replica, and one for the order
-- for example: 10
abbrev pub most_parts : ℕ
most_parts = MOST_PARTS

pub most_parts-is : most_parts ≡ most_replicas + 1
most_parts-is = refl

-- how many items a log may hold before a new one is refused
-- for example: 512
abbrev pub log_room : ℕ
log_room = LOG_ROOM

pub log_room-is : log_room ≡ 512
log_room-is = refl

-- how many queries a replica may hold before a new one is refused
-- for example: 1,024
abbrev pub held_room : ℕ
held_room = HELD_ROOM

pub held_room-is : held_room ≡ 1024
held_room-is = refl

-- how many entries an order log may hold before a new one is refused
abbrev pub order_room : ℕ
order_room = ORDER_ROOM

pub order_room-is : order_room ≡ 64
order_room-is = refl

-- how many bytes a script has at the most
-- for example: 8,388,608
abbrev pub most_script_bytes : ℕ
most_script_bytes = MOST_SCRIPT_BYTES

pub most_script_bytes-is : most_script_bytes ≡ 8388608
most_script_bytes-is = refl

-- the last number that a replica gives an update, and the last that a client gives a call
-- for example: 2^62
abbrev pub last_number : ℕ
last_number = LAST_NUMBER

pub last_number-is : last_number ≡ 2 ^ 62
last_number-is = refl
