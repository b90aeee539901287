-- THE BOUNDS
use Rattle.std.specs.Prelude.{ℕ}

-- "m 1 to 16"
abbrev pub most_processors : ℕ
most_processors = 16

-- "tasks 1 to 128"
abbrev pub most_tasks : ℕ
most_tasks = 128

-- "p, e, D each 1 to 1,048,576"
abbrev pub most_ticks : ℕ
most_ticks = 1048576

-- "L at most 134,217,728"
abbrev pub most_scale : ℕ
most_scale = 134217728

-- "clock at most 4,294,967,295 ticks"
abbrev pub clock : ℕ
clock = 4294967295

-- "rows of 12 bytes"
abbrev pub row_size : ℕ
row_size = 12

-- "A record is 48 bytes"
abbrev pub record_size : ℕ
record_size = 48

-- "sixteen 16-bit slots"
abbrev pub slot_count : ℕ
slot_count = 16
