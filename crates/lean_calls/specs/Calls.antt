-- What `call`, `return`, `end` and `new` of the lean machine do with its counters and stores.
use Rattle.std.specs.Prelude.{List, ℕ, ◌+◌, ◌*◌, ◌-◌, set}
use Rattle.tables.specs.Layout.{frame_variables, frame_bytes, values_at, objects_at, object_bytes}
use Rattle.tables.specs.Stores.{put_half, put_word}
use Rattle.run_heap.specs.Views.{word_size, frame_parameter, frame_row, object_first, fill}
use Rattle.lean_heap.specs.declared.Counters.{Counters}

-- COUNTERS

-- a call more
abbrev pub called : Counters → ℕ → Counters
called c row =
    record { objects = c.objects; fields = c.fields; frames = c.frames + 1; base = c.base + frame_bytes; row = row; steps = c.steps + 1 }

-- back in the caller
abbrev pub back : Counters → ℕ → Counters
back c row =
    record { objects = c.objects; fields = c.fields; frames = c.frames - 1; base = c.base - frame_bytes; row = row; steps = c.steps + 1 }

-- an object more, with n fields
abbrev pub larger : Counters → ℕ → Counters
larger c n =
    record { objects = c.objects + 1; fields = c.fields + n; frames = c.frames; base = c.base; row = c.row + 1; steps = c.steps + 1 }

-- STORES

-- the frame at a calls: it keeps its row; the next, at b, has its values, `this`, w and zeros
unfoldable pub framed : List ℕ → ℕ → ℕ → ℕ → ℕ → ℕ → List ℕ
framed w a b row o p =
    put_half (put_word (put_word (fill w b frame_variables 0) b o) (b + frame_parameter) p) (a + frame_row) row

-- object i + 1 of a class, its n fields from the cell k on, each 0
unfoldable pub made : List ℕ → ℕ → ℕ → ℕ → ℕ → List ℕ
made w i k n class =
    fill
    (put_half (set w (objects_at + i * object_bytes) class) (objects_at + i * object_bytes + object_first) k)
    (values_at + k * word_size)
    n
    0
