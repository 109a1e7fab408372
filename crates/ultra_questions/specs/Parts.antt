-- Parts of a lent buffer: "a map or command line as its part of the buffer's entries or text, up to its zero".
-- A reader has to believe this file.
use Rattle.std.specs.Prelude.{ℕ, ◌+◌, ◌*◌, List, [], length}
use Rattle.byte_layout.specs.Fields.{cells, filled}
use Rattle.ultra_format.specs.Contexts.{Body}
use Rattle.ultra_format.specs.Contexts.{Body.platform, Body.kernel, Body.memory_map, Body.module_info, Body.command_line, Body.framebuffer, Body.other}
use Rattle.ultra_format.specs.Layouts.{entries_fields}
use Rattle.lent_buffers.specs.declared.Part.{Part}
use Rattle.lent_buffers.specs.LentParts.{part, no_part}

-- the part of an attribute that starts at `o`: entries and text stand from its byte 8 on
unfoldable pub body_part : ℕ → Body → Part
body_part o (platform p) = no_part
body_part o (kernel k) = no_part
body_part o (memory_map es) = part (o + 8) (24 * length es)
body_part o (module_info m) = no_part
body_part o (command_line t) = part (o + 8) (length t)
body_part o (framebuffer f) = no_part
body_part o (other t) = no_part

-- "a part by its bytes": those of the entries by the layout, or of the text
unfoldable pub part_bytes : Body → List ℕ
part_bytes (platform p) = []
part_bytes (kernel k) = []
part_bytes (memory_map es) = filled (cells (entries_fields es))
part_bytes (module_info m) = []
part_bytes (command_line t) = t
part_bytes (framebuffer f) = []
part_bytes (other t) = []
