-- How the code is seen: the key under which a cipher encrypts, with tables or in planes.
use Rattle.std.specs.Prelude.{ℕ, List}
use Rattle.osc_aes.specs.Views.{key_of_narrow, key_of_planes, key_of_words}
use Rattle.osc_aes.specs.declared.narrow_planes.NarrowPlanes.{NarrowPlanes}
use Rattle.osc_aes.specs.declared.planes.PlaneAes.{PlaneAes}
use Rattle.osc_aes.specs.declared.table.TableAes.{TableAes}

-- the key of a cipher with tables: its cipher_key (how the code is seen)
abbrev pub key_of : TableAes → List ℕ
key_of cipher = key_of_words cipher.words

-- the key of a cipher in planes: its cipher_key (how the code is seen)
abbrev pub plane_key_of : PlaneAes → List ℕ
plane_key_of cipher = key_of_planes cipher.keys

-- the key of a schedule in planes at half of its size (how the code is seen)
abbrev pub narrow_key_of : NarrowPlanes → List ℕ
narrow_key_of schedule = key_of_narrow schedule.keys
